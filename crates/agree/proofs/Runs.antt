-- What a loop over the fields uses: the other way round, and the rules' run.
-- Assumes nothing.
use mathlib.Core.Path.{◌≡◌, sym, ap, ◌∙◌, subst}
use mathlib.Core.List.{List, ◌∷◌}
use Prim.Native.Nat.{ℕ, suc, ◌+◌}
use lib.ListN.{length, get_or, drop}
use lib.Seq.{drop-cons}
use Rattle.rules.specs.Bytes.{got}
use Rattle.rules.specs.Field.{Field, write_field, field}
use Rattle.rules.specs.State.{State}
use Rattle.rules.specs.Run.{refusal, end_in}
use Rattle.laws.proofs.Formats.{clash}
use Rattle.laws.proofs.Running.{run, run-cut, run_end}
use Rattle.tokens.proofs.Writing.{Bytes}
use Rattle.fields.specs.Cursor.{place_of, step_at}
use Rattle.fields.specs.declared.Cursor.{Cursor}
use Rattle.fields.specs.declared.Parts.{Parts}
use Rattle.fields.specs.declared.Parts.TheVariants.{Module, Extends, Constant, Variable, Definition, Instance, EndModule, Assume, Theorem, Cut, EndOfFile}
use Rattle.agree.specs.Parts.{Tells, IsField, Reads}
use Rattle.agree.proofs.Fields.{reads}

-- a field that the rules read is told of by the answer
module _ (s : List ℕ) (at next : ℕ) (f : Field) (r : List ℕ) (q : field.read (drop at s) ≡ got f r) where
  from_found : (x : Parts) → IsField s at next x → Tells s next x f × (r ≡ drop next s) × (next ≡ at + length (write_field f))
  from_found x (g, t, e, l, k) =
      let z : got g (drop next s) ≡ got f r = sym e ∙ q in
      let a : g ≡ f = cc in
      let b : r ≡ drop next s = cc in
      (subst (Tells s next x) a t, b, subst (λ (y : Field). next ≡ at + length (write_field y)) a l)

  from-reads : (x : Parts) → Reads s at next x → Tells s next x f × (r ≡ drop next s) × (next ≡ at + length (write_field f))
  from-reads (Module n) h = from_found (Module n) h
  from-reads (Extends p k) h = from_found (Extends p k) h
  from-reads (Constant n k) h = from_found (Constant n k) h
  from-reads (Variable n) h = from_found (Variable n) h
  from-reads (Definition n k p l) h = from_found (Definition n k p l) h
  from-reads (Instance n k m i p) h = from_found (Instance n k m i p) h
  from-reads EndModule h = from_found EndModule h
  from-reads (Assume p l) h = from_found (Assume p l) h
  from-reads (Theorem p l) h = from_found (Theorem p l) h
  from-reads Cut h = clash f r (sym h.1 ∙ q)
  from-reads EndOfFile h = clash f r (ap field.read (sym h.1) ∙ q)

pub reads_back : (s : List ℕ) (c : Cursor) → Bytes s → (f : Field) (r : List ℕ) → field.read (drop (place_of c) s) ≡ got f r
    → Tells s (place_of (step_at s c).next) (step_at s c).parts f × (r ≡ drop (place_of (step_at s c).next) s) × (place_of (step_at s c).next ≡ place_of c + length (write_field f))
reads_back s c h f r q = from-reads s (place_of c) (place_of (step_at s c).next) f r q (step_at s c).parts (reads s c h)

-- the run of the rules from a cursor: Cut is cause 3, and at the end of the file the run ends
pub run-cut-at : (s : List ℕ) (c : Cursor) (st : State) → Bytes s → (step_at s c).parts ≡ Cut → run (drop (place_of c) s) st ≡ refusal 3 st.fields
run-cut-at s c st h e =
    let r : Reads s (place_of c) (place_of (step_at s c).next) Cut = subst (Reads s (place_of c) (place_of (step_at s c).next)) e (reads s c h) in
    let d : drop (place_of c) s ≡ get_or s (place_of c) 0 ∷ drop (suc (place_of c)) s = drop-cons s (place_of c) 0 r.0 in
    ap (λ (l : List ℕ). run l st) d ∙ run-cut (get_or s (place_of c) 0) (drop (suc (place_of c)) s) st (ap field.read (sym d) ∙ r.1)

pub run-end-at : (s : List ℕ) (c : Cursor) (st : State) → Bytes s → (step_at s c).parts ≡ EndOfFile → run (drop (place_of c) s) st ≡ end_in st.phase st
run-end-at s c st h e =
    let r : Reads s (place_of c) (place_of (step_at s c).next) EndOfFile = subst (Reads s (place_of c) (place_of (step_at s c).next)) e (reads s c h) in
    ap (λ (l : List ℕ). run l st) r.1 ∙ run_end st
