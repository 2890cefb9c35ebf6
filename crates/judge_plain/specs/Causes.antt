-- What the judging functions answer, over the store: the first cause that holds, by its number, or 0.
use Rattle.std.specs.Prelude.{Bool, cond, not, List, ℕ, eqb, leb, ltb, Result, Ok, Err}
use Rattle.limits.specs.Limits.{max_arity, max_declarations, max_modules}
use Rattle.theory.specs.Lists.{is_some}
use Rattle.context.specs.Lookup.{code_named}
use Rattle.context.specs.Parts.{part, place_of}
use Rattle.context.specs.Entries.{after_field, codes_of}
use Rattle.context.specs.declared.Counts.{Counts}
use Rattle.store.specs.declared.Store.{Store}
use Rattle.judge_plain.specs.declared.Cause.{Cause}
use Rattle.judge_plain.specs.declared.Cause.TheVariants.{Malformed, OutOfOrder, LimitPassed, ModuleNameUsed, ModuleNotEnded, NameTaken, NameUnknown, Miscounted, WrongSubstitution, IllLevelled, AssumptionNotConstant, SubstituteUnlawful, NamedInstance, Mixed}
use Rattle.judge_plain.specs.declared.Judged.{Judged}
use Rattle.judge_plain.specs.declared.Phase.{Phase}
use Rattle.judge_plain.specs.declared.Phase.TheVariants.{Begun, Inside, Outside}

-- the numbers of the causes
abbrev pub number : Cause → ℕ
number Malformed = 3
number OutOfOrder = 4
number LimitPassed = 5
number ModuleNameUsed = 6
number ModuleNotEnded = 7
number NameTaken = 8
number NameUnknown = 9
number Miscounted = 10
number WrongSubstitution = 11
number IllLevelled = 12
number AssumptionNotConstant = 13
number SubstituteUnlawful = 14
number NamedInstance = 16
number Mixed = 21

-- the number of the cause that was found, 0 of none
abbrev pub found_number : Result (Unit {0}) Cause → ℕ
found_number (Ok u) = 0
found_number (Err cause) = number cause

-- 4: outside a module only a module field; EXTENDS only after the module field
abbrev pub early : Phase → ℕ → Bool
early Outside tag = not (eqb tag 1)
early Begun tag = ltb tag 2
early Inside tag = ltb tag 3

-- 4, 5, 6
unfoldable pub module_cause : Phase → ℕ → List ℕ → ℕ → ℕ
module_cause p modules heads name =
    cond (early p 1) 4 (cond (leb max_modules modules) 5 (cond (ltb (place_of name (part heads 0 modules)) modules) 6 0))

-- 4
unfoldable pub end_cause : Phase → ℕ
end_cause p = cond (early p 7) 4 0

-- 4, 5, 8
unfoldable pub declaration_cause : Phase → Counts → Store → ℕ → ℕ → ℕ → ℕ
declaration_cause p c v tag arity name =
    cond (early p tag) 4
    (cond (leb max_declarations c.declarations) 5
    (cond (ltb max_arity arity) 5 (cond (is_some (code_named v.names name (codes_of v c.modules))) 8 0)))

abbrev pub judged : ℕ → Phase → Counts → Judged
judged cause p c = record { cause = cause; phase = p; counts = c }

-- what is answered where a cause holds: phase and counts stay
abbrev pub refusal : ℕ → Phase → Counts → Judged
refusal cause p c = judged cause p c

-- the answer: of a lawful field the phase and the counts after it
unfoldable pub answer : ℕ → Phase → Counts → Phase → Counts → Judged
answer cause p c q d = cond (eqb cause 0) (judged 0 q d) (judged cause p c)

-- EXTENDS at last: whether a name of the joined context comes twice is 8
unfoldable pub joined_answer : Bool → Phase → Counts → Judged
joined_answer twice p c = cond twice (refusal 8 p c) (judged 0 Inside (after_field c))

-- the store changes by a lawful field only
unfoldable pub kept : ℕ → Store → Store → Store
kept cause before after = cond (eqb cause 0) after before
