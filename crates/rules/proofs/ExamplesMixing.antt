-- Paper 02, L5, "Action and temporal do not mix", by computation: levels that hold both a 2 and a 3, and cause 21.
use mathlib.Core.Bool.{Bool, cond}
use mathlib.Core.List.{List, [], ◌∷◌, ◌++◌}
use mathlib.Core.Option.{none, some}
use mathlib.Core.Path.{◌≡◌, refl}
use Prim.Native.Nat.{ℕ}
use Rattle.rules.proofs.Shapes.{Example, ◌plus◌, ◌', apply₁, apply₂, apply₃, box, bytes, failing, file, holds, module_of, num, op, op₁, op₂, par, same, var}
use Rattle.rules.specs.Add.{add}
use Rattle.rules.specs.Expression.{Expression}
use Rattle.rules.specs.Field.{Field, begin_module, declare_constant, declare_variable, definition, extends, instance, theorem}
use Rattle.rules.specs.Judge.{causes}
use Rattle.rules.specs.Query.{level_reply}
use Rattle.rules.specs.Run.{and_then, judge_file, refusal, result}
use Rattle.rules.specs.State.{State, start}
use Rattle.theory.specs.Level.{row}
use Rattle.theory.specs.Lists.{collect}

-- x is variable 2
abbrev x : Expression
x = op 2

-- p, q, r are the parameters
abbrev p : Expression
p = par 0

abbrev q : Expression
q = par 1

abbrev r : Expression
r = par 2

-- LEVELS. Module 1: variable 2, operator 3(_,_), 4(p, q) == p ∧ q, 5(p, q) == p, 6(p, q) == [](p ∧ q).
abbrev names : List Field
names = module_of 1 (declare_variable 2 ∷ declare_constant 3 2 ∷ definition 4 2 (apply₂ 49 p q) ∷ definition 5 2 p ∷ definition 6 2 (box (apply₂ 49 p q)) ∷ [])

-- an expression, the levels of its parameters, and its level
abbrev Levelled : Type 0
Levelled = Expression × List ℕ × ℕ

abbrev has_level : Levelled → Bool
has_level l = same (and_then (judge_file (file names)) (level_reply 1 l.1 (bytes l.0))) (result l.2)

-- (All pairs of levels, for the codes 48, 95, 132 and 139, stand in theory/proofs/Table.)
abbrev levels : List Levelled
levels =
    -- "a constant built-in": of two places, of three, with another level between
    (apply₂ 49 p q, 2 ∷ 3 ∷ [], 4)
    ∷ (apply₂ 49 p q, 3 ∷ 2 ∷ [], 4)
    ∷ (apply₂ 49 p q, 2 ∷ 2 ∷ [], 2)
    ∷ (apply₂ 49 p q, 3 ∷ 3 ∷ [], 3)
    ∷ (apply₂ 49 p q, 1 ∷ 3 ∷ [], 3)
    ∷ (apply₂ 49 p q, 2 ∷ 1 ∷ [], 2)
    ∷ (apply₃ 96 p q r, 2 ∷ 3 ∷ 0 ∷ [], 4)
    ∷ (apply₃ 96 p q r, 3 ∷ 1 ∷ 2 ∷ [], 4)
    ∷ (apply₃ 103 p q r, 1 ∷ 2 ∷ 3 ∷ [], 4)
    ∷ (apply₃ 103 p q r, 2 ∷ 1 ∷ 2 ∷ [], 2)
    -- "a declared operator"
    ∷ (op₂ 3 p q, 2 ∷ 3 ∷ [], 4)
    ∷ (op₂ 3 p q, 3 ∷ 2 ∷ [], 4)
    ∷ (op₂ 3 p q, 2 ∷ 2 ∷ [], 2)
    ∷ (op₂ 3 p q, 1 ∷ 3 ∷ [], 3)
    -- "a binder over a set": set, then body; without a set there is one argument
    ∷ (apply₂ 132 p q, 2 ∷ 3 ∷ [], 4)
    ∷ (apply₂ 132 p q, 3 ∷ 2 ∷ [], 4)
    ∷ (apply₂ 132 p (var 0 plus q), 3 ∷ 3 ∷ [], 3)
    ∷ (apply₂ 132 p (var 0 plus q), 2 ∷ 0 ∷ [], 2)
    ∷ (apply₁ 128 (var 0 plus p), 2 ∷ [], 2)
    -- far apart; under other built-ins, operators and binders
    ∷ (apply₂ 49 (apply₂ 50 p (num 0)) (apply₃ 96 x x (apply₁ 16 q)), 2 ∷ 3 ∷ [], 4)
    ∷ (op₂ 3 (apply₁ 128 p) (apply₂ 132 x (op₂ 3 q x)), 3 ∷ 2 ∷ [], 4)
    -- by a defined name: at its arguments' levels, one that it drops apart
    ∷ (op₂ 4 p q, 2 ∷ 3 ∷ [], 4)
    ∷ (op₂ 4 p q, 2 ∷ 2 ∷ [], 2)
    ∷ (op₂ 5 p q, 2 ∷ 3 ∷ [], 2)
    ∷ (apply₂ 49 (op₂ 5 p q) q, 2 ∷ 3 ∷ [], 4)
    -- what is taken at a 2 and gives 1 or 3 leaves no 2: ENABLED, [][A]_v, WF
    ∷ (apply₂ 49 (apply₁ 113 p) q, 2 ∷ 3 ∷ [], 3)
    ∷ (apply₂ 49 (apply₂ 120 p x) q, 2 ∷ 3 ∷ [], 3)
    ∷ (apply₂ 49 (apply₂ 124 x p) q, 2 ∷ 3 ∷ [], 3)
    ∷ (apply₂ 49 (apply₂ 120 p x) q, 2 ∷ 2 ∷ [], 4)
    -- a mask does not mend it: [] takes no 2, alone or beside a 3, ENABLED no 4; and the line for G
    ∷ (box p, 2 ∷ [], 4)
    ∷ (apply₁ 113 (apply₂ 49 p q), 2 ∷ 3 ∷ [], 4)
    ∷ (op₂ 6 p q, 2 ∷ 3 ∷ [], 4)
    ∷ (op₂ 6 p q, 3 ∷ 3 ∷ [], 3)
    ∷ []

pub levels-hold : failing has_level 0 levels ≡ []
unfolding row
levels-hold = refl

-- In a body: "D becomes 4, so its file is refused at D with 12". D, name 4, is field 3.
abbrev defining : Expression → List Field
defining e = module_of 1 (declare_variable 2 ∷ declare_constant 3 2 ∷ definition 4 0 e ∷ [])

abbrev bodies : List Example
bodies =
    (defining (apply₂ 49 (apply₂ 48 (x ') (num 1)) (box x)), refusal 12 3)
    ∷ (defining (box (op₂ 3 (x ') (box x))), refusal 12 3)
    ∷ (defining (apply₂ 132 (x ') (box x)), refusal 12 3)
    ∷ (defining (op₂ 3 x (box x)), result 1)
    ∷ (defining (apply₂ 49 (apply₂ 120 (x ') x) (box x)), result 1)
    -- parameters are at 0 there: a body that mixes at other levels passes, and its use with a 2 and a 3 does not
    ∷ (module_of 1 (declare_variable 2 ∷ definition 3 2 (apply₂ 49 p q) ∷ theorem (op₂ 3 (x ') (x ')) ∷ []), result 1)
    ∷ (module_of 1 (declare_variable 2 ∷ definition 3 2 (apply₂ 49 p q) ∷ theorem (op₂ 3 (x ') (box x)) ∷ []), refusal 12 3)
    ∷ []

pub bodies-hold : failing holds 0 bodies ≡ []
unfolding row
bodies-hold = refl

-- CAUSE 21, "an instance of a constant module whose substitutes, implicit ones included, hold both a 2 and a 3".
-- Module 1, constant: constants 3 and 4, operator 5, D == 3 + 5(3), so that 4 is not used; fields 0 to 5. Instanced in module 7 with variable 2: field 8.
abbrev two_constants : List Field
two_constants = module_of 1 (declare_constant 3 0 ∷ declare_constant 4 0 ∷ declare_constant 5 1 ∷ definition 6 0 (op 3 plus op₁ 5 (op 3)) ∷ [])

abbrev instanced : List (ℕ × Expression) → List Field
instanced ss = two_constants ++ module_of 7 (declare_variable 2 ∷ instance 8 0 1 ((5, num 0) ∷ ss) ∷ [])

abbrev mixed : List Example
mixed =
    (instanced ((3, x ') ∷ (4, box x) ∷ []), refusal 21 8)
    ∷ (instanced ((3, box x) ∷ (4, x ') ∷ []), refusal 21 8)
    ∷ (instanced ((3, x ') ∷ (4, x ') ∷ []), result 2)
    ∷ (instanced ((3, box x) ∷ (4, box x) ∷ []), result 2)
    ∷ (instanced ((3, x) ∷ (4, box x) ∷ []), result 2)
    ∷ (instanced ((3, x ') ∷ (4, x) ∷ []), result 2)
    -- unnamed too; substitutes over the instance's parameters, which are at 0
    ∷ (two_constants ++ module_of 7 (declare_variable 2 ∷ instance 0 0 1 ((5, num 0) ∷ (3, x ') ∷ (4, box x) ∷ []) ∷ []), refusal 21 8)
    ∷ (two_constants ++ module_of 7 (instance 8 1 1 ((5, num 0) ∷ (3, p ') ∷ (4, box p) ∷ []) ∷ []), refusal 21 7)
    ∷ (two_constants ++ module_of 7 (instance 8 2 1 ((5, num 0) ∷ (3, p) ∷ (4, q) ∷ []) ∷ []), result 2)
    -- implicit ones: a definition of level 2 or 3 that stands for itself, one or both
    ∷ (two_constants ++ module_of 7 (declare_variable 2 ∷ definition 3 0 (x ') ∷ instance 8 0 1 ((5, num 0) ∷ (4, box x) ∷ []) ∷ []), refusal 21 9)
    ∷ (two_constants ++ module_of 7 (declare_variable 2 ∷ definition 4 0 (box x) ∷ instance 8 0 1 ((5, num 0) ∷ (3, x ') ∷ []) ∷ []), refusal 21 9)
    ∷ (two_constants ++ module_of 7 (declare_variable 2 ∷ definition 4 0 (box x) ∷ instance 8 0 1 ((5, num 0) ∷ (3, x) ∷ []) ∷ []), result 3)
    ∷ (two_constants ++ module_of 7 (declare_variable 2 ∷ definition 3 0 (x ') ∷ definition 4 0 (box x) ∷ instance 8 0 1 ((5, num 0) ∷ []) ∷ []), refusal 21 10)
    -- a module that defines nothing; constants that it extends
    ∷ (module_of 1 (declare_constant 3 0 ∷ declare_constant 4 0 ∷ []) ++ module_of 7 (declare_variable 2 ∷ instance 8 0 1 ((3, x ') ∷ (4, box x) ∷ []) ∷ []), refusal 21 6)
    ∷ (
      module_of 1 (declare_constant 3 0 ∷ []) ++ module_of 5 (extends 1 [] ∷ declare_constant 4 0 ∷ [])
          ++ module_of 7 (declare_variable 2 ∷ instance 8 0 5 ((3, x ') ∷ (4, box x) ∷ []) ∷ []),
      refusal 21 9,
    )
    -- in a module with no variable: c' and []c, c a constant
    ∷ (two_constants ++ module_of 7 (declare_constant 2 0 ∷ instance 8 0 1 ((5, num 0) ∷ (3, x ') ∷ (4, box x) ∷ []) ∷ []), refusal 21 8)
    -- "judged after 14": 9, 11, 12 and 14 of the same field before it
    ∷ (instanced ((3, x ') ∷ (4, box x plus op 99) ∷ []), refusal 9 8)
    ∷ (instanced ((3, x ') ∷ (4, box x) ∷ (4, x) ∷ []), refusal 11 8)
    ∷ (two_constants ++ module_of 7 (declare_variable 2 ∷ instance 8 0 1 ((5, x ' ') ∷ (3, x ') ∷ (4, box x) ∷ []) ∷ []), refusal 12 8)
    ∷ (two_constants ++ module_of 7 (declare_variable 2 ∷ instance 8 0 1 ((5, x) ∷ (3, x ') ∷ (4, box x) ∷ []) ∷ []), refusal 14 8)
    -- though D == 3 + 4 would be brought at 4, it is 21; and before 16
    ∷ (
      module_of 1 (declare_constant 3 0 ∷ declare_constant 4 0 ∷ definition 6 0 (op 3 plus op 4) ∷ [])
          ++ module_of 7 (declare_variable 2 ∷ instance 8 0 1 ((3, x ') ∷ (4, box x) ∷ []) ∷ []),
      refusal 21 7,
    )
    ∷ (
      module_of 1 [] ++ module_of 5 (declare_constant 3 0 ∷ declare_constant 4 0 ∷ instance 6 0 1 [] ∷ [])
          ++ module_of 7 (declare_variable 2 ∷ instance 8 0 5 ((3, x ') ∷ (4, box x) ∷ []) ∷ []),
      refusal 21 9,
    )
    -- its place: the second of two instances; the first of two fields at fault
    ∷ (
      two_constants ++ module_of 7 (declare_variable 2 ∷ instance 8 0 1 ((5, num 0) ∷ (3, x ') ∷ (4, x) ∷ [])
          ∷ instance 9 0 1 ((5, num 0) ∷ (3, x ') ∷ (4, box x) ∷ []) ∷ []),
      refusal 21 9,
    )
    ∷ (two_constants ++ module_of 7 (declare_variable 2 ∷ instance 8 0 1 ((5, num 0) ∷ (3, x ') ∷ (4, box x) ∷ []) ∷ theorem (op 99) ∷ []), refusal 21 8)
    ∷ (two_constants ++ module_of 7 (declare_variable 2 ∷ theorem (x ' ') ∷ instance 8 0 1 ((5, num 0) ∷ (3, x ') ∷ (4, box x) ∷ []) ∷ []), refusal 12 8)
    ∷ []

pub mixed-hold : failing holds 0 mixed ≡ []
unfolding row
mixed-hold = refl

-- The numbers of all the causes that hold of a field after others, in the order judged.
abbrev after : State → List Field → State
after s [] = s
after s (f ∷ fs) = after (add s f) fs

abbrev held : List Field → Field → List ℕ
held fs f = collect (λ c. cond c.1 (some c.0) none) (causes (after start fs) f)

-- a module 1, and module 7 with variable 2, not ended yet
abbrev open7 : List Field → List Field
open7 M = M ++ (begin_module 7 ∷ declare_variable 2 ∷ [])

-- Only "of a constant module": 14 alone where it has a variable, or a definition above 0. Whether a definition uses both (D == 3 + 4) or none is all one.
pub which-hold :
    held (open7 two_constants) (instance 8 0 1 ((5, num 0) ∷ (3, x ') ∷ (4, box x) ∷ []))
    ∷ held (open7 two_constants) (instance 8 0 1 ((5, x) ∷ (3, x ') ∷ (4, box x) ∷ []))
    ∷ held (open7 (module_of 1 (declare_variable 9 ∷ declare_constant 3 0 ∷ declare_constant 4 0 ∷ []))) (instance 8 0 1 ((9, x) ∷ (3, x ') ∷ (4, box x) ∷ []))
    ∷ held (open7 (module_of 1 (declare_constant 3 0 ∷ declare_constant 4 0 ∷ definition 6 0 (num 0 ') ∷ []))) (instance 8 0 1 ((3, x ') ∷ (4, box x) ∷ []))
    ∷ held (open7 (module_of 1 (declare_constant 3 0 ∷ declare_constant 4 0 ∷ definition 6 0 (num 0) ∷ []))) (instance 8 0 1 ((3, x ') ∷ (4, box x) ∷ []))
    ∷ held (open7 (module_of 1 (declare_constant 3 0 ∷ declare_constant 4 0 ∷ definition 6 0 (op 3 plus op 4) ∷ []))) (instance 8 0 1 ((3, x ') ∷ (4, box x) ∷ []))
    ∷ []
    ≡ (21 ∷ []) ∷ (14 ∷ 21 ∷ []) ∷ (14 ∷ []) ∷ (14 ∷ []) ∷ (21 ∷ []) ∷ (21 ∷ []) ∷ []
unfolding row
which-hold = refl
