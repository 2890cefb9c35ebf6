-- What a resolved expression names: declared names that its context declares, and definitions that its context brings. The same of a
-- substitute of a name that the module instanced declares; one of any other name brings no definition either.
use mathlib.Core.Bool.{Bool, cond, false, true}
use mathlib.Core.List.{List, [], ◌∷◌}
use mathlib.Core.Option.{Option, none, some}
use mathlib.Core.Path.{◌∙◌, ◌≡◌, ap, refl, subst, sym}
use lib.Dec.{eqb, eqb→eq}
use Prim.Native.Nat.{◌+◌, suc, zero, ℕ}
use Rattle.laws.proofs.Resolved.{Brings, same_kind_lem}
use Rattle.rules.specs.Expression.{Expression, Token, bound_variable, built_in, instance_operator, numeral, operator, parameter}
use Rattle.rules.specs.Field.{Substitution}
use Rattle.rules.specs.Instance.{is_kind, kind_in, substitute, substitute_or, substitution_for}
use Rattle.rules.specs.State.{Context, Entry, Module, State, declares, defines, definition_named, entry_of_name, head_of, here, instance_of, instances, name_of, operator_of, resolve}
use Rattle.theory.proofs.Lists.{find-has}
use Rattle.theory.specs.Expand.{itself, params_from}
use Rattle.theory.specs.Lists.{All, bind_option, map_option, or_else}
use Rattle.theory.specs.Term.{Every, Everys, Kind, declared, defined, kind_arity, leaf, literal}
use Rattle.theory.specs.Tree.{Trees, ◌▹◌, map_trees, node, ⟨⟩}
use Rattle.worlds.proofs.Uses.{uses-of}
use Rattle.worlds.specs.World.{AnyName, HeadMentions, Mentions, Uses, brings}
use Rattle.laws.proofs.Origins.{In as Declares}

module _ (s : State) (Γ : Context) (P : ℕ → Type 0) (brings : All (Brings P) Γ) where
  operator-mentions : (x k m : ℕ) (o : Option Entry) → entry_of_name x Γ ≡ o → HeadMentions (Declares Γ) P k (or_else (leaf (literal 0)) (bind_option o operator_of)) m
  operator-mentions x k m none e = tt
  operator-mentions x k m (some (declares y d f)) e =
      (f, subst (λ (z : ℕ). entry_of_name z Γ ≡ some (declares y d f)) (eqb→eq x y (find-has (Brings P) (λ (e : Entry). eqb x (name_of e)) Γ (declares y d f) brings e).1) e)
  operator-mentions x k m (some (defines y g)) e = (find-has (Brings P) (λ (e : Entry). eqb x (name_of e)) Γ (defines y g) brings e).0
  operator-mentions x k m (some (instances y f hs)) e = tt

  brought-mentions : (i f k m : ℕ) (o : Option Entry) → entry_of_name i Γ ≡ o
      → HeadMentions (Declares Γ) P k (or_else (leaf (literal 0)) (map_option defined (bind_option (bind_option o instance_of) λ hs. definition_named s hs (i ∷ []) f))) m
  brought-mentions i f k m none e = tt
  brought-mentions i f k m (some (declares y d x)) e = tt
  brought-mentions i f k m (some (defines y g)) e = tt
  brought-mentions i f k m (some (instances y x hs)) e = at (definition_named s hs (i ∷ []) f) refl
    where
      at : (o : Option ℕ) → definition_named s hs (i ∷ []) f ≡ o → HeadMentions (Declares Γ) P k (or_else (leaf (literal 0)) (map_option defined o)) m
      at none q = tt
      at (some g) q = (find-has P _ hs g (find-has (Brings P) (λ (e : Entry). eqb i (name_of e)) Γ (instances y x hs) brings e).0 q).0

  head-mentions : (t : Token) (k m : ℕ) → HeadMentions (Declares Γ) P k (or_else (leaf (literal 0)) (head_of s Γ t)) m
  head-mentions (parameter i) k m = tt
  head-mentions (bound_variable j) k m = tt
  head-mentions (operator n a) k m = operator-mentions n k m (entry_of_name n Γ) refl
  head-mentions (instance_operator i f a) k m = brought-mentions i f k m (entry_of_name i Γ) refl
  head-mentions (built_in c) k m = tt
  head-mentions (numeral v) k m = tt

  mutual
    mentions-at : (e : Expression) (k : ℕ) → Every (HeadMentions (Declares Γ) P) k (resolve s Γ e)
    mentions-at (node t es) k = (head-mentions t k _, all-mention-at es k _)

    all-mention-at : (es : Trees Token) (k : ℕ) (b : ℕ → ℕ) → Everys (HeadMentions (Declares Γ) P) k b (map_trees (λ t. or_else (leaf (literal 0)) (head_of s Γ t)) es)
    all-mention-at ⟨⟩ k b = tt
    all-mention-at (e ▹ es) k b = (mentions-at e (b 0 + k), all-mention-at es k (λ i. b (suc i)))

  pub resolve-mentions : (e : Expression) → Mentions (Declares Γ) P (resolve s Γ e)
  resolve-mentions e = mentions-at e 0

params-mention : (N : Kind → ℕ → Type 0) (P : ℕ → Type 0) (k i m : ℕ) (b : ℕ → ℕ) → Everys (HeadMentions N P) k b (params_from i m)
params-mention N P k i zero b = tt
params-mention N P k i (suc m) b = ((tt, tt), params-mention N P k (suc i) m (λ j. b (suc j)))

module _ (s : State) (P : ℕ → Type 0) (brings : All (Brings P) (here s)) (p : ℕ) (M : Module) (ss : List Substitution) (k : Kind) (x : ℕ) where
  or-mentions : (o : Option Expression) → Mentions (Declares (here s)) P (substitute_or s p k x o)
  or-mentions none = (operator-mentions s (here s) P brings x 0 _ (entry_of_name x (here s)) refl, params-mention (Declares (here s)) P 0 p (kind_arity k) _)
  or-mentions (some e) = resolve-mentions s (here s) P brings e

  pub substitute-mentions : kind_in M x ≡ some k → Mentions (Declares (here s)) P (substitute s p M ss k x)
  substitute-mentions e =
      subst (Mentions (Declares (here s)) P)
      (sym (ap (λ (o : Option Kind). cond (is_kind k o) (substitute_or s p k x (substitution_for ss x)) (itself p k (declared k x))) e
      ∙ ap (λ (b : Bool). cond b (substitute_or s p k x (substitution_for ss x)) (itself p k (declared k x))) (same_kind_lem k))) (or-mentions (substitution_for ss x))

  pub substitute-uses : Uses P (substitute s p M ss k x)
  substitute-uses = at (is_kind k (kind_in M x))
    where
      at : (b : Bool) → Uses P (cond b (substitute_or s p k x (substitution_for ss x)) (itself p k (declared k x)))
      at true = uses-of (Declares (here s)) P (substitute_or s p k x (substitution_for ss x)) (or-mentions (substitution_for ss x))
      at false = (tt, params-mention AnyName P 0 p (kind_arity k) _)
