-- The two laws of this crate, for the states that the fields of a file reach: what `look_up` answers of a name is what the rules find; what
-- `look_expr` answers and notes of an expression is what the rules judge and resolve.
use mathlib.Core.Bool.{Bool, false}
use mathlib.Core.List.{List}
use mathlib.Core.Option.{some}
use mathlib.Core.Path.{◌∙◌, ◌≡◌, ap, sym}
use Prim.Native.Nat.{ℕ, ◌+◌, ◌<◌, ◌≤◌}
use native.Mathlib.Omega.{arith}
use lib.ListN.{get_or, length}
use Rattle.limits.specs.Limits.{max_declarations}
use Rattle.rules.specs.Expression.{Expression, expression, instance_operator, nesting, operator}
use Rattle.rules.specs.Field.{Field}
use Rattle.rules.specs.Judge.{miscounted, unknown}
use Rattle.rules.specs.State.{Context, State, head_of, resolve}
use Rattle.laws.proofs.Invariant.{Good}
use Rattle.laws.proofs.Origins.{Origins}
use Rattle.tokens.specs.Expr.{Expr, Found, expr_at, found}
use Rattle.tokens.specs.declared.Token.TheVariants.{Name, InstanceOperator}
use Rattle.tokens.proofs.Writing.{Bytes}
use Rattle.fields.specs.Substitution.{part}
use Rattle.texts.specs.Text.{Declarations, shown}
use Rattle.context.specs.Holds.{Holds, module_no}
use Rattle.context.specs.Entries.{codes_of}
use Rattle.store.specs.declared.Store.{Store}
use Rattle.context.specs.declared.Counts.{Counts}
use Rattle.resolve.specs.Look.{look_in}
use Rattle.resolve.specs.Meaning.{Means}
use Rattle.resolve.specs.Walk.{Looks}
use Rattle.resolve.proofs.Meaning.{instance-means, name-means}
use Rattle.resolve.proofs.Numbers.{Declares, declarations_of, few-declarations, known-context, numbered-context}
use Rattle.resolve.proofs.Resolving.{names-mean, walk_before, walk-behind, walk-length, walk-miscounted, walk-next, walk-resolved, walk-unknown}

-- What is right of a walk over the expression e of l bytes at a position, in the context Γ, with n parameters.
pub record Right (s : State) (Γ : Context) (decls : Declarations) (n : ℕ) (file : List ℕ) (nest at l : ℕ) (e : Expression) (refs refs' : List ℕ) (u c : Bool) (x : ℕ)
    : Type 0 where
  pub next : x ≡ at + l
  pub cause-9 : u ≡ unknown s Γ n e
  pub cause-10 : c ≡ miscounted s Γ e
  pub resolved : u ≡ false → (t : Expr) (y : ℕ) → expr_at nest file at ≡ found t y → shown refs' decls t ≡ resolve s Γ e
  pub before : (i : ℕ) → i < at → get_or refs' i 0 ≡ get_or refs i 0
  pub behind : (i : ℕ) → at + l ≤ i → get_or refs' i 0 ≡ get_or refs i 0
  pub size : length refs' ≡ length refs

one-tree : (g : Found) (t t' : Expr) (y y' : ℕ) → g ≡ found t y → g ≡ found t' y' → t ≡ t'
one-tree g t t' y y' p q = let r : found t y ≡ found t' y' = sym p ∙ q in cc

-- the store shows a state that the fields fs reach, and module m is ended or open
module _ (v : Store) (c : Counts) (s : State) (holds : Holds v c s) (fs : List Field) (declares : Declares v.facts c fs) (origins : Origins fs s) (good : Good s)
    (m : ℕ) (there : m ≤ c.modules) where
  abbrev Γ : Context
  Γ = (module_no s m).context

  abbrev decls : Declarations
  decls = declarations_of fs

  few : length decls ≤ max_declarations
  few = few-declarations v.facts c fs declares

  inside : m ≤ length s.ended
  inside = omega (arith, holds.modules)

  pub name-law : (n k : ℕ) → Means s decls (look_in v.names v.facts (codes_of v m) (Name n k)) (head_of s Γ (operator n k))
  name-law n k = name-means v c s holds decls few m there (numbered-context s m inside v.facts c fs declares origins) (known-context s m inside good) n k

  pub instance-law : (i f k : ℕ) → 0 < i → Means s decls (look_in v.names v.facts (codes_of v m) (InstanceOperator i f k)) (head_of s Γ (instance_operator i f k))
  instance-law i f k p =
      instance-means v c s holds decls few m there (numbered-context s m inside v.facts c fs declares origins) (known-context s m inside good) i f k p

  -- the expression that the rules read in l bytes of the file, nesting no deeper than the walk goes
  module _ (file : List ℕ) (bytes : Bytes file) (at l : ℕ) (e : Expression) (room : at + l ≤ length file) (q : expression.read (part file at l) ≡ some e)
      (nest : ℕ) (deep : nesting e ≤ nest) (n : ℕ) (refs refs' : List ℕ) (wide : at + l ≤ length refs) (u w : Bool) (x : ℕ) where
    pub walk-law : Looks v.names v.facts (codes_of v m) n 0 (expr_at nest file at) refs refs' u w x → Right s Γ decls n file nest at l e refs refs' u w x
    walk-law looks =
        let meant = names-mean v c s holds decls few m there (numbered-context s m inside v.facts c fs declares origins) (known-context s m inside good) file bytes at (at + l) in
        record {
          next = walk-next s decls Γ v.names v.facts (codes_of v m) file bytes at l e room q nest deep meant n refs refs' u w x looks;
          cause-9 = walk-unknown s decls Γ v.names v.facts (codes_of v m) file bytes at l e room q nest deep meant n refs refs' u w x looks;
          cause-10 = walk-miscounted s decls Γ v.names v.facts (codes_of v m) file bytes at l e room q nest deep meant n refs refs' u w x looks;
          resolved = λ known t y p.
              let r = walk-resolved s decls Γ v.names v.facts (codes_of v m) file bytes at l e room q nest deep meant n refs refs' u w x looks wide known in
              ap (shown refs' decls) (one-tree (expr_at nest file at) t r.0 y (at + l) p r.1) ∙ r.2;
          before = walk_before s decls Γ v.names v.facts (codes_of v m) file bytes at l e room q nest deep meant n refs refs' u w x looks;
          behind = walk-behind s decls Γ v.names v.facts (codes_of v m) file bytes at l e room q nest deep meant n refs refs' u w x looks;
          size = walk-length s decls Γ v.names v.facts (codes_of v m) file bytes at l e room q nest deep meant n refs refs' u w x looks;
        }
