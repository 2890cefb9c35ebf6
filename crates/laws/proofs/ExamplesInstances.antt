-- "Lawful instances stay lawful" (paper 02, L6) by computation: instances of a module on each side, the numbers of their definitions, and the levels with parameters at 0.
use mathlib.Core.Bool.{Bool, false, true}
use mathlib.Core.List.{List, [], ◌++◌, ◌∷◌, map}
use mathlib.Core.Path.{◌≡◌, refl}
use lib.ListN.{length}
use Prim.Native.Nat.{ℕ}
use Rattle.laws.specs.Cause15.{brought_incorrect, causes_with15}
use Rattle.laws.specs.Lawful.{adds}
use Rattle.laws.specs.LawfulInstances.{HasInstance, at_instance, brought_number, highest_substitute, instanced, level_at_zero, original_number}
use Rattle.rules.proofs.Shapes.{◌plus◌, ◌', box, file, module_of, num, op, op₁, outcome, par}
use Rattle.rules.specs.Field.{Field, Substitution, begin_module, declare_constant, declare_variable, definition, end_module, extends, instance}
use Rattle.rules.specs.Instance.{is_constant}
use Rattle.rules.specs.Run.{result}
use Rattle.rules.specs.State.{start}
use Rattle.theory.specs.Level.{row}
use Rattle.theory.specs.Lists.{numbers_from}

-- Of an instance: whether the module is constant; the highest substitute; and of each definition of the module its number, its level, the number that it is brought
-- under, and the level of what is brought.
abbrev levels : {fs : List Field} {n p m : ℕ} {ss : List Substitution} → HasInstance fs n p m ss → Bool × ℕ × List (ℕ × ℕ × ℕ × ℕ)
levels {fs = fs} {p = p} {ss = ss} h =
    let card = level_at_zero (adds start fs) in (
      is_constant (at_instance h) (instanced h),
      highest_substitute (at_instance h) p (instanced h) ss,
      map (λ i. (original_number h i, card (original_number h i), brought_number h i, card (brought_number h i))) (numbers_from 0 (length (instanced h).definitions)),
    )

-- A CONSTANT MODULE, 1: constant 2, 3 == 2 + 2. Module 4 has a variable of the name 2.
abbrev constants : List Field
constants = module_of 1 (declare_constant 2 0 ∷ definition 3 0 (op 2 plus op 2) ∷ []) ++ (begin_module 4 ∷ declare_variable 2 ∷ [])

-- "no higher than the highest substitute": in instance 5 2' is put for 2, and level 0 becomes 2; in instance 6 2 stands for itself, and level 0 becomes 1.
abbrev risen : List Field
risen = constants ++ (instance 5 0 1 ((2, op 2 ') ∷ []) ∷ instance 6 0 1 [] ∷ end_module ∷ [])

abbrev primed : HasInstance risen 5 0 1 ((2, op 2 ') ∷ [])
primed = record { before = constants; behind = instance 6 0 1 [] ∷ end_module ∷ []; split = refl }

abbrev implicit : HasInstance risen 6 0 1 []
implicit = record { before = constants ++ (instance 5 0 1 ((2, op 2 ') ∷ []) ∷ []); behind = end_module ∷ []; split = refl }

pub constant-accepted : outcome (file risen) ≡ result 3
unfolding row
constant-accepted = refl

pub constant-rises : levels primed ≡ (true, 2, (0, 0, 1, 2) ∷ [])
unfolding row
constant-rises = refl

pub implicit-counts : levels implicit ≡ (true, 1, (0, 0, 2, 1) ∷ [])
unfolding row
implicit-counts = refl

-- A MODULE THAT IS NOT CONSTANT, 1: variable 2, operator 3(_), 4 == 2, 5 == 2', 6 == []2, 7 == 3([]2). Instance 9 of it has a parameter, which is put for 2; for 3 is
-- put an operator that drops its argument. Level 1 becomes 0; levels 2 and 3 stay, or 3 becomes 0.
abbrev variables : List Field
variables =
    module_of 1 (declare_variable 2 ∷ declare_constant 3 1 ∷ definition 4 0 (op 2) ∷ definition 5 0 (op 2 ') ∷ definition 6 0 (box (op 2)) ∷ definition 7 0 (op₁ 3 (box (op 2))) ∷ [])
    ++ (begin_module 8 ∷ [])

abbrev lowered : List Field
lowered = variables ++ (instance 9 1 1 ((2, par 0) ∷ (3, num 0) ∷ []) ∷ end_module ∷ [])

abbrev dropping : HasInstance lowered 9 1 1 ((2, par 0) ∷ (3, num 0) ∷ [])
dropping = record { before = variables; behind = end_module ∷ []; split = refl }

pub variable-accepted : outcome (file lowered) ≡ result 8
unfolding row
variable-accepted = refl

pub never-higher : levels dropping ≡ (false, 0, (0, 1, 4, 0) ∷ (1, 2, 5, 2) ∷ (2, 3, 6, 3) ∷ (3, 3, 7, 0) ∷ [])
unfolding row
never-higher = refl

-- NUMBERS, of a module that is not constant though it has no variable: 2 extends 1 (4 == 3, number 0) and has 6 == 3' (number 3) after 5 has come between (8 and 9, numbers 1 and 2).
-- An instance without a name brings them in their order.
abbrev extending : List Field
extending =
    module_of 1 (declare_constant 3 0 ∷ definition 4 0 (op 3) ∷ []) ++ module_of 5 (definition 8 0 (num 0) ∷ definition 9 0 (num 0) ∷ [])
    ++ (begin_module 2 ∷ extends 1 [] ∷ definition 6 0 (op 3 ') ∷ end_module ∷ []) ++ (begin_module 7 ∷ [])

abbrev unnamed : List Field
unnamed = extending ++ (instance 0 0 2 ((3, num 0) ∷ []) ∷ end_module ∷ [])

abbrev plainly : HasInstance unnamed 0 0 2 ((3, num 0) ∷ [])
plainly = record { before = extending; behind = end_module ∷ []; split = refl }

pub unnamed-accepted : outcome (file unnamed) ≡ result 6
unfolding row
unnamed-accepted = refl

pub numbers-in-order : levels plainly ≡ (false, 0, (0, 0, 4, 0) ∷ (3, 2, 5, 2) ∷ [])
unfolding row
numbers-in-order = refl

-- CAUSE 15 in its old place; and an instance that it held of, as 21 does: 2' and []2 put for 3 and 4 in 3 + 4. Of 2' and 2 it did not hold.
pub fifteen-in-place : map (λ c. c.0) (causes_with15 start (instance 1 0 1 [])) ≡ 4 ∷ 5 ∷ 7 ∷ 8 ∷ 9 ∷ 10 ∷ 11 ∷ 12 ∷ 14 ∷ 21 ∷ 15 ∷ 16 ∷ []
fifteen-in-place = refl

abbrev sum : List Field
sum = module_of 1 (declare_constant 3 0 ∷ declare_constant 4 0 ∷ definition 6 0 (op 3 plus op 4) ∷ []) ++ (begin_module 7 ∷ declare_variable 2 ∷ [])

pub fifteen-held :
    map (brought_incorrect (adds start sum)) (instance 8 0 1 ((3, op 2 ') ∷ (4, box (op 2)) ∷ []) ∷ instance 8 0 1 ((3, op 2 ') ∷ (4, op 2) ∷ []) ∷ []) ≡ true ∷ false ∷ []
unfolding row
fifteen-held = refl
