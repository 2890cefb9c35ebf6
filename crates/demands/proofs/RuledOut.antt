-- What demand 3 rules out, by computation, whatever memory of the stated size is lent: the wrong checkers and readings that paper 01 names.
use borrow.Author.Tests.{le-ltb}
use mathlib.Core.List.{List, [], ◌++◌, ◌∷◌}
use mathlib.Core.Path.{◌≡◌, ap, refl}
use lib.ListN.{get_or, length}
use native.Mathlib.Omega.{arith}
use Prim.Native.Nat.{◌+◌, ◌<◌, ℕ}
use Rattle.demands.specs.Demand3.{Cards}
use Rattle.demands.specs.Archive.{Enough, check_leaves, check_tells, expand_tells, expand_writes, level_tells, state_of}
use Rattle.demands.specs.LongWay.{InFull, by_body, nothing_left, one_more, stays}
use Rattle.laws.specs.Cards.{card_in, card_part, name_at_params}
use Rattle.limits.specs.Limits.{card_bytes, card_memory_bytes}
use Rattle.rules.proofs.Shapes.{◌', bytes, file, module_of, num, op, op₁, par}
use Rattle.rules.specs.Field.{declare_constant, declare_variable, definition, instance}
use Rattle.rules.specs.Run.{result}
use Rattle.theory.specs.Card.{card_of, read_card}
use Rattle.theory.specs.Level.{row}
use Rattle.theory.specs.Term.{Term, builtin, param}
use Rattle.theory.specs.Tree.{◌▹◌, node, ⟨⟩}

-- "a checker that cards the first definition and copies that card to the rest": F(p) == p', G(p) == p
abbrev two : List ℕ
two = file (module_of 1 (definition 2 1 (par 0 ') ∷ definition 3 1 (par 0) ∷ []))

pub two-cards : (cards : List ℕ) → Enough cards
    → (check_tells two cards ≡ result 2) × (get_or (check_leaves two cards) 1 0 ≡ 2) × (get_or (check_leaves two cards) (card_bytes + 1) 0 ≡ 0)
unfolding row card_of
two-cards cards room = rw (le-ltb (length cards) card_memory_bytes room) (refl, refl, refl)

pub not-copied : (cards : List ℕ) → Enough cards → ¬ ((i : ℕ) → i < card_bytes → get_or (check_leaves two cards) (card_bytes + i) 0 ≡ get_or (check_leaves two cards) i 0)
not-copied cards room copied =
    let (_, first, second) = two-cards cards room in
    let same = copied 1 (omega arith) in
    absurd (omega (arith, first, second, same))

-- From demand 3 alone, whatever bytes a checker leaves: the first card copied to the rest, or one card for all operators, does not meet it.
abbrev p₀ : Term
p₀ = node (param 0) ⟨⟩

abbrev p₀' : Term
p₀' = node (builtin 112) (p₀ ▹ ⟨⟩)

two-long : length (state_of two).definitions ≡ 2
unfolding row
two-long = refl

itself : InFull (state_of two) p₀ p₀
itself = stays (param 0) ⟨⟩ ⟨⟩ tt nothing_left

first-in-full : InFull (state_of two) (name_at_params (state_of two) 0) p₀'
unfolding row
first-in-full =
    by_body 0 1 p₀' p₀' p₀' (p₀ ▹ ⟨⟩) (p₀ ▹ ⟨⟩) (omega (arith, two-long)) refl (one_more p₀ p₀ ⟨⟩ ⟨⟩ itself nothing_left)
    (stays (builtin 112) (p₀ ▹ ⟨⟩) (p₀ ▹ ⟨⟩) tt (one_more p₀ p₀ ⟨⟩ ⟨⟩ itself nothing_left)) refl

second-in-full : InFull (state_of two) (name_at_params (state_of two) 1) p₀
unfolding row
second-in-full = by_body 1 1 p₀ p₀ p₀ (p₀ ▹ ⟨⟩) (p₀ ▹ ⟨⟩) (omega (arith, two-long)) refl (one_more p₀ p₀ ⟨⟩ ⟨⟩ itself nothing_left) itself refl

pub copied-fails : (left : List ℕ) → card_part left 1 ≡ card_part left 0 → Cards two left 2 → ⊥
unfolding row
copied-fails left copied cards =
    let first : card_in left 0 (0 ∷ []) ≡ 2 = cards.every_card 0 (0 ∷ []) (omega arith) refl (omega arith, tt) p₀' first-in-full in
    let second : card_in left 1 (0 ∷ []) ≡ 0 = cards.every_card 1 (0 ∷ []) (omega arith) refl (omega arith, tt) p₀ second-in-full in
    let same : card_in left 1 (0 ∷ []) ≡ card_in left 0 (0 ∷ []) = ap (λ (c : List ℕ). read_card c (0 ∷ [])) copied in
    omega (arith, first, second, same)

-- "Taking I!F from F's old card": F == c, and I == INSTANCE with the variable x for c, lawful since F's module is constant. I!F is a state, F a constant.
abbrev instanced : List ℕ
instanced = file (module_of 1 (declare_constant 2 0 ∷ definition 3 0 (op 2) ∷ []) ++ module_of 4 (declare_variable 5 ∷ instance 6 0 1 ((2, op 5) ∷ []) ∷ []))

pub not-the-old-card : (cards : List ℕ) → Enough cards
    → (check_tells instanced cards ≡ result 2) × (get_or (check_leaves instanced cards) 1 0 ≡ 0) × (get_or (check_leaves instanced cards) (card_bytes + 1) 0 ≡ 1)
unfolding row card_of
not-the-old-card cards room = rw (le-ltb (length cards) card_memory_bytes room) (refl, refl, refl)

-- "Checking dropped arguments: F((x')') would be refused": F(p) == 0, x a variable. The level query replies 0, and the expansion is the literal alone.
abbrev dropping : List ℕ
dropping = file (module_of 1 (declare_variable 2 ∷ definition 3 1 (num 0) ∷ []))

pub dropped : (cards : List ℕ) → Enough cards
    → (level_tells dropping cards 1 [] (bytes (op₁ 3 (op 2 ' '))) ≡ result 0)
    × (expand_tells dropping cards 1 0 (bytes (op₁ 3 (op 2 ' '))) (7 ∷ 7 ∷ 7 ∷ 7 ∷ []) ≡ result 3)
    × (expand_writes dropping cards 1 0 (bytes (op₁ 3 (op 2 ' '))) (7 ∷ 7 ∷ 7 ∷ 7 ∷ []) ≡ 5 ∷ 0 ∷ 0 ∷ 7 ∷ [])
unfolding row
dropped cards room = rw (le-ltb (length cards) card_memory_bytes room) (refl, refl, refl)
