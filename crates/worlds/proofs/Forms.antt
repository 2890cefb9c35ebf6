-- The form of a text in its world is, at all values, what the definition's template means.
use mathlib.Core.List.{List, [], ◌++◌, ◌∷◌, map, map-append}
use mathlib.Core.Path.{◌∙◌, ◌≡◌, ap, ap₂, refl, sym}
use lib.ListN.{drop, get_or, length, length-drop, take}
use lib.Seq.{drop-cons, take_all}
use native.Mathlib.Omega.{arith}
use Prim.Native.Nat.{◌+◌, ◌<◌, ◌≤◌, suc, zero, ℕ}
use Rattle.laws.proofs.Sound.{SoundFrom}
use Rattle.rules.specs.State.{State, params_of, templates_of}
use Rattle.theory.proofs.ExpandFirst.{Keeps}
use Rattle.theory.proofs.Hom.{Carries, carry}
use Rattle.theory.specs.Expand.{body_in}
use Rattle.theory.specs.Lists.{All}
use Rattle.theory.specs.Term.{Kind, Reading, Term, eval, kind_arity}
use Rattle.worlds.proofs.File.{definition-by-tables, world-params}
use Rattle.worlds.proofs.Invariant.{Worlds}
use Rattle.worlds.specs.Forms.{Forms, RightForms, declared_form, form_in, form_reading, units}
use Rattle.worlds.specs.Rows.{Row, original, own_params, text_of, world_of}
use Rattle.worlds.specs.Tables.{Right, Table, by_tables, declared_by}
use Rattle.worlds.specs.World.{AllDeclared, AnyName, World, eval_at, number_in, params_in}

module _ {A B : Type 0} (M : Reading A) (Good : A → Type 0) (L : Forms B) (at : B → List A → A) where
  -- `at` is a form's value at the parameters' values: it carries the reading of terms as forms to M, putting in to application, and the form
  -- that is a parameter to that parameter's value
  pub record FormLaws : Type 0 where
    pub keeps : Keeps M Good
    pub carries : (v : List A) → All Good v → Carries L.reading M (λ b. at b v)
    pub at-put : (f : B) (gs : List B) (v : List A) → All Good v → at (L.put f gs) v ≡ at f (map (λ g. at g v) gs)
    pub at_unit : (i : ℕ) (v : List A) → All Good v → i < length v → at (L.unit i) v ≡ get_or v i M.unknown
    pub good : (b : B) (v : List A) → All Good v → Good (at b v)

  abbrev pub tables_of : List (Kind → ℕ → B) → List (Table A)
  tables_of [] = []
  tables_of (S ∷ Ss) = (λ k x. at (S k x)) ∷ tables_of Ss

  module _ (laws : FormLaws) where
    units-values : (v : List A) → All Good v → (i n : ℕ) → i + n ≤ length v → map (λ b. at b v) (units L i n) ≡ take n (drop i v)
    units-values v a i zero h = refl
    units-values v a i (suc n) h =
        let there : i < length v = omega arith in
        rw (drop-cons v i M.unknown there) (ap₂ ◌∷◌ (laws.at_unit i v a there) (units-values v a (suc i) n (omega arith)))

    put-given : (v : List A) → All Good v → (P : ℕ) → P ≤ length v → (f : B) (fs : List B) → at (L.put f (units L 0 P ++ fs)) v ≡ at f (take P v ++ map (λ b. at b v) fs)
    put-given v a P h f fs =
        laws.at-put f (units L 0 P ++ fs) v a
        ∙ ap (at f) (map-append (λ b. at b v) (units L 0 P) fs ∙ ap (λ (l : List A). l ++ map (λ b. at b v) fs) (units-values v a 0 P (omega arith)))

    -- The form of a text in a world, at any values, is the text's meaning in the world.
    pub form-text : (F : ℕ → B) (w : World) (Ss : List (Kind → ℕ → B)) (n : ℕ) (t : Term) (v : List A) → length v ≡ params_in w + n → All Good v
        → at (form_in L F w Ss n t) v ≡ eval_at (by_tables M (λ g. at (F g)) w (tables_of Ss)) (params_in w) t v
    form-text F w Ss n t v q a =
        carry (form_reading L F w Ss (units L 0 (params_in w))) (by_tables M (λ g. at (F g)) w (tables_of Ss) (take (params_in w) v)) (λ b. at b v) carried t (units L (params_in w) n) []
        ∙ ap (λ (l : List A). eval (by_tables M (λ g. at (F g)) w (tables_of Ss) (take (params_in w) v)) l [] t)
        (units-values v a (params_in w) n (omega arith) ∙ take_all n (drop (params_in w) v) (rw (length-drop (params_in w) v) (omega arith)))
      where
        on_declared : (Ss : List (Kind → ℕ → B)) (k : Kind) (x : ℕ) (fs : List B)
            → at (declared_form L Ss (units L 0 (params_in w)) k x fs) v ≡ declared_by M (tables_of Ss) (take (params_in w) v) k x (map (λ b. at b v) fs)
        on_declared [] k x fs = (laws.carries v a).on_declared k x fs
        on_declared (S ∷ Ss) k x fs = put-given v a (params_in w) (omega arith) (S k x) fs

        carried : Carries (form_reading L F w Ss (units L 0 (params_in w))) (by_tables M (λ g. at (F g)) w (tables_of Ss) (take (params_in w) v)) (λ b. at b v)
        carried =
            record {
              on_declared = on_declared Ss;
              on_defined = λ g fs. put-given v a (params_in w) (omega arith) (F (number_in w g)) fs;
              on_builtin = (laws.carries v a).on_builtin;
              on_leaf = (laws.carries v a).on_leaf;
              unknown = (laws.carries v a).unknown;
            }

    right-forms : (F : ℕ → B) (w : World) (Ss : List (Kind → ℕ → B)) → RightForms L F w Ss → Right M Good (λ g. at (F g)) w (tables_of Ss)
    right-forms F [] [] r = tt
    right-forms F [] (S ∷ Ss) r = r
    right-forms F (l ∷ w) [] r = r
    right-forms F (l ∷ w) (S ∷ Ss) r = (
      (λ k x d us q a.
          ap (λ (b : B). at b us) (r.0 k x d) ∙ form-text F w Ss (l.params + kind_arity k) (l.substitutes k x) us (q ∙ omega arith) a),
      right-forms F w Ss r.1,
    )

    -- The form worked out in the world is, at all values, what the definition's template means.
    pub definition-form : (s : State) (rs : List Row) → Worlds s rs → SoundFrom [] s.definitions → (D : ℕ) → D < length s.definitions
        → (F : ℕ → B) → ((g : ℕ) (v : List A) → g < D → length v ≡ params_of s g → All Good v → at (F g) v ≡ eval M v [] (body_in (templates_of s) g))
        → (Ss : List (Kind → ℕ → B)) → RightForms L F (world_of rs D) Ss → AllDeclared AnyName (world_of rs D) (text_of s rs D) → (v : List A) → length v ≡ params_of s D → All Good v
        → at (form_in L F (world_of rs D) Ss (own_params (original s rs D)) (text_of s rs D)) v ≡ eval M v [] (body_in (templates_of s) D)
    definition-form s rs w sound D l F exact Ss r d v q a =
        form-text F (world_of rs D) Ss (own_params (original s rs D)) (text_of s rs D) v (q ∙ world-params s rs w sound D l) a
        ∙ sym (definition-by-tables s rs w sound D l M Good (λ g. at (F g)) (record { keeps = laws.keeps; good = λ g vs b. laws.good (F g) vs b; exact = exact })
        (tables_of Ss) (right-forms F (world_of rs D) Ss r) d v q a)
