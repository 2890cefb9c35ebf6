-- WHAT THE ARCHIVE HANDS BACK, operation by operation: the number that it returns, the reply that a caller reads off it, and what is then in the lent card memory
-- (and, of an expansion, in the lent output). The numbers and the memory stand in the contracts of crates/rafterclary/src/lib.rt, which have no premise; the
-- three demands speak of nothing else that a program does.
use Rattle.std.specs.Prelude.{Bool, List, length, ◌≤◌, ℕ}
use Rattle.demands.specs.Packed.{packed, packed_span, packed_truth, unpacked, unpacked_span, unpacked_truth}
use Rattle.limits.specs.Limits.{card_memory_bytes}
use Rattle.rules.specs.Query.{alike_query, body_query, expansion_query, level_query}
use Rattle.rules.specs.Run.{Outcome, file_check, judge_file, refusal, result}
use Rattle.rules.specs.State.{State, start}

-- rafterclary_check: a file, and the card memory lent
abbrev pub check_number : (file lent : List ℕ) → ℕ
check_number file lent = packed (file_check file lent).reply

abbrev pub check_tells : (file lent : List ℕ) → Outcome ℕ
check_tells file lent = unpacked (check_number file lent)

abbrev pub check_leaves : (file lent : List ℕ) → List ℕ
check_leaves file lent = (file_check file lent).memory

-- rafterclary_level: further a module's name, the levels given for the parameters, and the bytes of an expression
abbrev pub level_number : (file lent : List ℕ) (m : ℕ) (levels bytes : List ℕ) → ℕ
level_number file lent m levels bytes = packed (level_query file lent m levels bytes).reply

abbrev pub level_tells : (file lent : List ℕ) (m : ℕ) (levels bytes : List ℕ) → Outcome ℕ
level_tells file lent m levels bytes = unpacked (level_number file lent m levels bytes)

abbrev pub level_leaves : (file lent : List ℕ) (m : ℕ) (levels bytes : List ℕ) → List ℕ
level_leaves file lent m levels bytes = (level_query file lent m levels bytes).memory

-- rafterclary_alike: further the numbers of two definitions
abbrev pub alike_number : (file lent : List ℕ) (g h : ℕ) → ℕ
alike_number file lent g h = packed_truth (alike_query file lent g h).reply

abbrev pub alike_tells : (file lent : List ℕ) (g h : ℕ) → Outcome Bool
alike_tells file lent g h = unpacked_truth (alike_number file lent g h)

abbrev pub alike_leaves : (file lent : List ℕ) (g h : ℕ) → List ℕ
alike_leaves file lent g h = (alike_query file lent g h).memory

-- rafterclary_body: further the number of a definition; the reply is the start and the length of a part of the file
abbrev pub body_number : (file lent : List ℕ) (g : ℕ) → ℕ
body_number file lent g = packed_span (body_query file lent g).reply

abbrev pub body_tells : (file lent : List ℕ) (g : ℕ) → Outcome (ℕ × ℕ)
body_tells file lent g = unpacked_span (body_number file lent g)

abbrev pub body_leaves : (file lent : List ℕ) (g : ℕ) → List ℕ
body_leaves file lent g = (body_query file lent g).memory

-- rafterclary_expand: further a module's name, a number of parameters, the bytes of an expression, and the output lent
abbrev pub expand_number : (file lent : List ℕ) (m n : ℕ) (bytes output : List ℕ) → ℕ
expand_number file lent m n bytes output = packed (expansion_query file lent m n bytes output).reply

abbrev pub expand_tells : (file lent : List ℕ) (m n : ℕ) (bytes output : List ℕ) → Outcome ℕ
expand_tells file lent m n bytes output = unpacked (expand_number file lent m n bytes output)

abbrev pub expand_leaves : (file lent : List ℕ) (m n : ℕ) (bytes output : List ℕ) → List ℕ
expand_leaves file lent m n bytes output = (expansion_query file lent m n bytes output).memory

abbrev pub expand_writes : (file lent : List ℕ) (m n : ℕ) (bytes output : List ℕ) → List ℕ
expand_writes file lent m n bytes output = (expansion_query file lent m n bytes output).output

-- "lent card memory of the stated size"
abbrev pub Enough : List ℕ → Type 0
Enough lent = card_memory_bytes ≤ length lent

-- What the fields of a file add, one after the other, from nothing (`Demand2.what_fields_add`). Where a field is at fault it is `start`, of which nothing is said: whatever
-- speaks of `state_of file` has a file that is accepted.
abbrev pub state_in : Outcome State → State
state_in (result s) = s
state_in (refusal c p) = start

abbrev pub state_of : List ℕ → State
state_of file = state_in (judge_file file)
