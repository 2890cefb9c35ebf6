-- The fields without expressions advance: from what their judges promise.
use mathlib.Core.Bool.{Bool, cond, false, true}
use mathlib.Core.List.{List, [], ◌++◌}
use mathlib.Core.Option.{none}
use mathlib.Core.Path.{◌∙◌, ◌≡◌, ap, refl, subst, sym}
use Prim.Native.Nat.{ℕ, ◌+◌, ◌-◌}
use lib.Dec.{eqb}
use lib.ListN.{length}
use Rattle.limits.specs.Limits.{file_bytes}
use Rattle.rules.specs.Add.{add}
use Rattle.rules.specs.Field.{Field, begin_module, end_module, extends}
use Rattle.rules.specs.State.{State}
use Rattle.laws.proofs.Origins.{declaration}
use Rattle.tokens.specs.Token.{number_at}
use Rattle.agree.specs.Parts.{names_at}
use Rattle.fields.specs.declared.Parts.{Parts}
use Rattle.fields.specs.declared.Parts.TheVariants.{Module, Extends, EndModule}
use Rattle.context.specs.Entries.{after_end, after_field, begun}
use Rattle.store.specs.declared.Store.{Store}
use Rattle.context.specs.declared.Counts.{Counts}
use Rattle.worlds.specs.Rows.{Row, new_rows}
use Rattle.judge_plain.proofs.Lifted.{end-field-law, module-field-law}
use Rattle.judge_plain.proofs.Premises.{no-cause-left}
use Rattle.judge_plain.specs.Causes.{answer, end_cause, kept, module_cause}
use Rattle.judge_plain.specs.Extending.{Extending}
use Rattle.judge_plain.specs.Judges.{Judges}
use Rattle.judge_plain.specs.declared.Judged.{Judged}
use Rattle.judge_plain.specs.declared.Phase.{Phase}
use Rattle.judge_plain.specs.declared.Phase.TheVariants.{Begun, Outside}
use Rattle.standing.specs.Grows.{RowsKept}
use Rattle.standing.specs.Standing.{Advances, AtField, Judging, Standing}
use Rattle.standing.proofs.Advancing.{room, stands-quiet}
use Rattle.standing.proofs.Growth.{rows_same}
use Rattle.standing.proofs.Texts.{SameBelow, same-below}

-- A field that declares and defines nothing, judged as the rules judge it.
pub quiet-advances : (file : List ℕ) (fs : List Field) (s : State) (rs : List Row) (v : Store) (c : Counts) (p : Phase) (refs words : List ℕ)
    → Standing file fs s rs v c p refs words → (x : Parts) (f : Field) → AtField file s x f → (v' : Store) (r : Judged) (refs' : List ℕ) → Judges v' r s f
    → RowsKept v c v' → v'.declared ≡ v.declared → declaration f ≡ none → new_rows s rs f ≡ [] → (add s f).definitions ≡ s.definitions ++ [] → SameBelow s.bytes refs refs' → length refs' ≡ file_bytes
    → Advances file fs s rs f r v' refs' words
quiet-advances file fs s rs v c p refs words stands x f at v' r refs' judged rows Codes-same a b d same size = record {
  cause = judged.cause;
  stands = λ z. stands-quiet file fs s rs v c p refs words stands x f at (no-cause-left s f (sym judged.cause ∙ z)) v' r.counts r.phase refs'
      (judged.holds z) (judged.phase z) rows Codes-same a b d same size;
}

-- the same of what is told of the field
module _ (file : List ℕ) (x : Parts) (v v' : Store) (c : Counts) (p : Phase) (r : Judged) (refs words : List ℕ) (names : v'.names ≡ v.names) (facts : v'.facts ≡ v.facts)
    (declared : v'.declared ≡ v.declared) where
  plain-advances : (fs : List Field) (s : State) (rs : List Row) (f g : Field) → Standing file fs s rs v c p refs words → AtField file s x f → f ≡ g → Judges v' r s g
      → declaration g ≡ none → new_rows s rs g ≡ [] → (add s g).definitions ≡ s.definitions ++ [] → Advances file fs s rs f r v' refs words
  plain-advances fs s rs f g stands at e judged a b d =
      subst (λ (h : Field). Advances file fs s rs h r v' refs words) (sym e)
      (quiet-advances file fs s rs v c p refs words stands x g (subst (AtField file s x) e at) v' r refs judged (rows_same v c v' names facts) declared a b d
      (same-below s.bytes refs) stands.refs_size)

-- a part of the store that the field does not change
part-kept : {A : Type 0} (g : Store → A) (w : ℕ) (v u : Store) → g u ≡ g v → g (kept w v u) ≡ g v
unfolding kept
part-kept g w v u e = go (eqb w 0)
  where
    go : (b : Bool) → g (cond b u v) ≡ g v
    go true = e
    go false = refl

module _ (file : List ℕ) (v v' : Store) (p : Phase) (c : Counts) (r : Judged) (refs words : List ℕ) where
  -- module_field
  pub module-judging : (n : ℕ) → r ≡ answer (module_cause p c.modules v.heads n) p c Begun (after_field c)
      → v' ≡ kept (module_cause p c.modules v.heads n) v (begun v c.modules n) → Judging file (Module n) v v' c p r refs refs words words
  module-judging n e h = record {
    advances = λ fs s rs f stands at.
        plain-advances file (Module n) v v' c p r refs words (still (λ w. w.names) refl) (still (λ w. w.facts) refl) (still (λ w. w.declared) refl) fs s rs f (begin_module n) stands at at.tells
        (module-field-law v c s stands.holds p stands.phase (room file fs s rs v c p refs words stands (Module n) f at) r n v' e h) refl refl refl;
  }
    where
      still : {A : Type 0} (g : Store → A) → g (begun v c.modules n) ≡ g v → g v' ≡ g v
      still g q = ap g h ∙ part-kept g (module_cause p c.modules v.heads n) v (begun v c.modules n) q

  -- end_field
  pub end-judging : r ≡ answer (end_cause p) p c Outside (after_end c) → v' ≡ kept (end_cause p) v (begun v (c.modules + 1) 0)
      → Judging file EndModule v v' c p r refs refs words words
  end-judging e h = record {
    advances = λ fs s rs f stands at.
        plain-advances file EndModule v v' c p r refs words (still (λ w. w.names) refl) (still (λ w. w.facts) refl) (still (λ w. w.declared) refl) fs s rs f end_module stands at at.tells
        (end-field-law v c s stands.holds p stands.phase (room file fs s rs v c p refs words stands EndModule f at) r stands.within v' e h) refl refl refl;
  }
    where
      still : {A : Type 0} (g : Store → A) → g (begun v (c.modules + 1) 0) ≡ g v → g v' ≡ g v
      still g q = ap g h ∙ part-kept g (end_cause p) v (begun v (c.modules + 1) 0) q

  -- extends_field
  pub extends-judging : (at k : ℕ) → Extending v v' p c r (number_at file at) (names_at file (at + 2) (k - 1)) → Judging file (Extends at k) v v' c p r refs refs words words
  extends-judging at k x = record {
    advances = λ fs s rs f stands there.
        plain-advances file (Extends at k) v v' c p r refs words (ap (λ (w : Store). w.names) x.frame) (ap (λ (w : Store). w.facts) x.frame) (ap (λ (w : Store). w.declared) x.frame) fs s rs f
        (extends (number_at file at) (names_at file (at + 2) (k - 1))) stands there there.tells.1 (x.judges s stands.holds stands.phase) refl refl refl;
  }
