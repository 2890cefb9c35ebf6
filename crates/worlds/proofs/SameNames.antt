-- Two readings that differ only in names, and agree on those that a term has, give it one meaning; W says which its declared names are.
use mathlib.Core.List.{List, [], ◌++◌}
use mathlib.Core.Option.{some}
use mathlib.Core.Path.{◌∙◌, ◌≡◌, ap, refl, sym}
use lib.ListN.{get_or, length, replicate}
use Prim.Native.Nat.{◌+◌, ℕ}
use Rattle.laws.proofs.Invariant.{Good}
use Rattle.theory.proofs.ExpandFirst.{Keeps, evals-good, length-evals}
use Rattle.theory.proofs.Fusion.{Looks, fusion}
use Rattle.theory.proofs.Lists.{append-all, replicate-all}
use Rattle.theory.specs.Level.{binds_in, plain}
use Rattle.theory.specs.Lists.{All}
use Rattle.theory.specs.Term.{Arities, Every, Fits, Head, Kind, Reading, Term, Terms, WellFormed, binder, bound, builtin, declared, defined, eval, evals, kind_arity, leaf, meaning, param}
use Rattle.theory.proofs.Values.{values}
use Rattle.theory.specs.Tree.{count, node}
use Rattle.worlds.proofs.Uses.{every-both}
use Rattle.worlds.specs.World.{AnyDefinition, HeadMentions, Names, with_names}

module _ {A : Type 0} (M : Reading A) (Good : A → Type 0) (D D' : Kind → ℕ → List A → A) (G G' : ℕ → List A → A) (keeps : Keeps (with_names M D G) Good)
    (ar : Arities) (W : Kind → ℕ → Type 0)
    (same_d : (k : Kind) (x : ℕ) → W k x → (vs : List A) → length vs ≡ kind_arity k → All Good vs → D k x vs ≡ D' k x vs)
    (same_g : (g : ℕ) (vs : List A) → ar g ≡ some (length vs) → All Good vs → G g vs ≡ G' g vs) where
  record Alike (d k : ℕ) (b b' : List A) : Type 0 where
    same : b ≡ b'
    good : All Good b'

  looks-same : (D : Kind → ℕ → List A → A) (G : ℕ → List A → A) → Looks (with_names M D G) Good
  looks-same D G = record { unknown = keeps.looks.unknown; on_builtin = keeps.looks.on_builtin }

  abbrev Fit : ℕ → ℕ → Head → ℕ → Type 0
  Fit n k h m = Fits ar n k h m × HeadMentions W AnyDefinition k h m

  pub same_names : (n : ℕ) (ρ : List A) (t : Term) → All Good ρ → WellFormed ar n 0 t → Names W t → eval (with_names M D G) ρ [] t ≡ eval (with_names M D' G') ρ [] t
  same_names n ρ t gρ w u =
      sym (fusion N N ρ ρ (λ d. node) (Fit n) Good (looks-same D G) Alike grow stay t 0 0 [] [] (record { same = refl; good = tt }) both)
      ∙ fusion N N' ρ ρ (λ d. node) (Fit n) Good (looks-same D' G') Alike grow step t 0 0 [] [] (record { same = refl; good = tt }) both
    where
      N : Reading A
      N = with_names M D G

      N' : Reading A
      N' = with_names M D' G'

      both : Every (Fit n) 0 t
      both = every-both (Fits ar n) (HeadMentions W AnyDefinition) t 0 w u

      grow : (v : A) (m d k : ℕ) (b b' : List A) → Good v → Alike d k b b' → Alike (m + d) (m + k) (replicate m v ++ b) (replicate m v ++ b')
      grow v m d k b b' gv r =
          record {
            same = ap (λ (l : List A). replicate m v ++ l) r.same;
            good = append-all Good (replicate m v) b' (replicate-all Good m v gv) r.good;
          }

      stay : (d k : ℕ) (b b' : List A) (h : Head) (ts : Terms) → Alike d k b b' → Fit n k h (count ts)
          → eval N ρ b' (node h ts) ≡ meaning N ρ b h (λ v. evals N ρ b' v (binds_in (binder h)) ts)
      stay d k b b' (param i) ts r w = refl
      stay d k b b' (bound j) ts r w = ap (λ (l : List A). get_or l j M.unknown) (sym r.same)
      stay d k b b' (declared c x) ts r w = refl
      stay d k b b' (defined g) ts r w = refl
      stay d k b b' (builtin c) ts r w = refl
      stay d k b b' (leaf l) ts r w = refl

      good-values : (b' : List A) (ts : Terms) → All Good b' → All Good (values N ρ b' ts)
      good-values b' ts g = evals-good N Good keeps ρ gρ ts b' M.unknown (binds_in plain) g keeps.looks.unknown

      step : (d k : ℕ) (b b' : List A) (h : Head) (ts : Terms) → Alike d k b b' → Fit n k h (count ts)
          → eval N ρ b' (node h ts) ≡ meaning N' ρ b h (λ v. evals N ρ b' v (binds_in (binder h)) ts)
      step d k b b' (param i) ts r w = refl
      step d k b b' (bound j) ts r w = ap (λ (l : List A). get_or l j M.unknown) (sym r.same)
      step d k b b' (declared c x) ts r w = same_d c x w.1 (values N ρ b' ts) (length-evals N ρ b' M.unknown (binds_in plain) ts ∙ w.0) (good-values b' ts r.good)
      step d k b b' (defined g) ts r w = same_g g (values N ρ b' ts) (rw length-evals w.0) (good-values b' ts r.good)
      step d k b b' (builtin c) ts r w = refl
      step d k b b' (leaf l) ts r w = refl
