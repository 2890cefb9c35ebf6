-- What each judge asks of what is under way, and what its answer means, by the parts of the field.
use mathlib.Core.List.{List}
use mathlib.Core.Path.{◌≡◌, subst, subst⁻¹}
use Prim.Native.Nat.{ℕ, ◌+◌, ◌-◌, ◌*◌, ◌≤◌, ◌<◌}
use Rattle.limits.specs.Limits.{file_bytes, max_definitions, max_modules}
use Rattle.limits.specs.Sizes.{max_fields}
use Rattle.tokens.specs.Token.{number_at}
use Rattle.fields.specs.declared.Parts.TheVariants.{Module, Extends, Definition, Instance, EndModule, Cut, EndOfFile}
use Rattle.fields.specs.declared.Parts.{Parts}
use Rattle.agree.specs.Parts.{names_at}
use Rattle.context.specs.Entries.{after_end, after_field, begun}
use Rattle.store.specs.declared.Store.{Store}
use Rattle.context.specs.declared.Counts.{Counts}
use Rattle.judge_plain.specs.Causes.{answer, end_cause, kept, module_cause}
use Rattle.judge_plain.specs.Extending.{Extending, Ready}
use Rattle.judge_plain.specs.declared.Judged.{Judged}
use Rattle.judge_plain.specs.declared.Phase.TheVariants.{Begun, Outside}
use Rattle.judge_plain.specs.declared.Phase.{Phase}
use Rattle.standing.proofs.Asking.{definition-inside, end-asks, extends-inside, extends-ready, no_cut, no_end, underway-roomy}
use Rattle.standing.proofs.Plain.{end-judging, extends-judging, module-judging}
use Rattle.standing.specs.Standing.{Judging, Roomy, Underway}

module _ (file : List ℕ) (v : Store) (c : Counts) (p : Phase) (refs words : List ℕ) (x : Parts) where
  abbrev Now : Type 0
  Now = Underway file v c p refs words x

  room : Now → Roomy v c
  room u = underway-roomy file v c p refs words x u

  put : {y : Parts} → x ≡ y → Now → Underway file v c p refs words y
  put e u = subst (Underway file v c p refs words) e u

  pub module-asks : Now → (c.modules ≤ max_modules) × (c.fields < max_fields)
  module-asks u = let r = room u in (r.modules, r.fields)

  pub end-of-asks : x ≡ EndModule → Now → (c.modules ≤ max_modules) × (c.fields < max_fields) × (end_cause p ≡ 0 → c.modules < max_modules)
  end-of-asks e u = let r = room u in (r.modules, r.fields, end-asks file v c p refs words (put e u))

  pub extends-asks : (at k : ℕ) → x ≡ Extends at k → Now
      → Ready v p c × (1 ≤ k) × (at + 2 * k ≤ file_bytes) × (c.fields < max_fields) × (c.modules ≤ max_modules) × (c.definitions ≤ max_definitions)
  extends-asks at k e u =
      let r = room u in
      let i = extends-inside file v c p refs words at k (put e u) in
      (extends-ready file v c p refs words x u, i.0, i.1, r.fields, r.modules, r.definitions)

  pub declaration-asks : Now → Roomy v c
  declaration-asks u = room u

  pub definition-asks : (n k at l : ℕ) → x ≡ Definition n k at l → Now → Roomy v c × (at + l ≤ file_bytes)
  definition-asks n k at l e u = (room u, definition-inside file v c p refs words n k at l (put e u))

  pub instance-asks : (n k m i at : ℕ) → x ≡ Instance n k m i at → Now → Underway file v c p refs words (Instance n k m i at)
  instance-asks n k m i at e u = put e u

  pub formula-asks : Now → (c.modules ≤ max_modules) × (c.fields < max_fields)
  formula-asks u = let r = room u in (r.modules, r.fields)

  pub by-cut : {A : Type 0} → x ≡ Cut → Now → A
  by-cut e u = absurd (no_cut file v c p refs words (put e u))

  pub by-end-of-file : {A : Type 0} → x ≡ EndOfFile → Now → A
  by-end-of-file e u = absurd (no_end file v c p refs words (put e u))

  -- the answers
  module _ (r : Judged) (v' : Store) where
    pub by_parts : (y : Parts) (refs' words' : List ℕ) → x ≡ y → Judging file y v v' c p r refs refs' words words' → Judging file x v v' c p r refs refs' words words'
    by_parts y refs' words' e h = subst⁻¹ (λ (z : Parts). Judging file z v v' c p r refs refs' words words') e h

    pub by-module : (n : ℕ) → x ≡ Module n
        → (r ≡ answer (module_cause p c.modules v.heads n) p c Begun (after_field c)) × (v' ≡ kept (module_cause p c.modules v.heads n) v (begun v c.modules n))
        → Judging file x v v' c p r refs refs words words
    by-module n e h = by_parts (Module n) refs words e (module-judging file v v' p c r refs words n h.0 h.1)

    pub by_end : x ≡ EndModule → (r ≡ answer (end_cause p) p c Outside (after_end c)) × (v' ≡ kept (end_cause p) v (begun v (c.modules + 1) 0))
        → Judging file x v v' c p r refs refs words words
    by_end e h = by_parts EndModule refs words e (end-judging file v v' p c r refs words h.0 h.1)

    pub by-extends : (at k : ℕ) → x ≡ Extends at k → Extending v v' p c r (number_at file at) (names_at file (at + 2) (k - 1)) → Judging file x v v' c p r refs refs words words
    by-extends at k e h = by_parts (Extends at k) refs words e (extends-judging file v v' p c r refs words at k h)

    -- the judge of a declaration looks at neither the file nor the table of names
    pub by-any-file : (y : Parts) (words' : List ℕ) → x ≡ y → ((file refs : List ℕ) → Judging file y v v' c p r refs refs words words')
        → Judging file x v v' c p r refs refs words words'
    by-any-file y words' e h = by_parts y refs words' e (h file refs)

    -- the judge of a formula does not look at its length
    pub by-any-length : (y : ℕ → Parts) (l : ℕ) (refs' : List ℕ) → x ≡ y l → ((l : ℕ) → Judging file (y l) v v' c p r refs refs' words words) → Judging file x v v' c p r refs refs' words words
    by-any-length y l refs' e h = by_parts (y l) refs' words e (h l)
