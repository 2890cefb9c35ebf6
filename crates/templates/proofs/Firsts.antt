-- What stands for a declaration is its kind's and name's; so an earlier one of the same level has the shape.
use mathlib.Core.Bool.{Bool, ◌&&◌, false, true}
use mathlib.Core.List.{List}
use mathlib.Core.Path.{◌∙◌, ◌≡◌, ap, ap₂, refl, subst, sym}
use borrow.Author.Tests.{eq-eqb, eqb-true, ltb-false, ltb-true, ne_eqb}
use lib.Dec.{eqb, ltb}
use lib.ListN.{get_or, length, length-set, set}
use lib.Seq.{get_or-set_other, get_or-set_same}
use native.Mathlib.Omega.{arith}
use Prim.Native.Nat.{◌+◌, ◌-◌, ◌<◌, ◌≤◌, ℕ}
use Rattle.limits.specs.Limits.{max_arity, max_declarations}
use Rattle.theory.specs.Term.{Kind, Term, constant, kind_arity, variable}
use Rattle.symbols.specs.Spell.{shape_limit, shape_of, spell}
use Rattle.texts.specs.Text.{no_declaration}
use Rattle.store.specs.Store.{kind_at}
use Rattle.store.specs.declared.Store.{Store}
use Rattle.store.specs.declared.Facts.{Facts}
use Rattle.worlds.specs.Rows.{world_of}
use Rattle.worlds.specs.World.{AnyName, Declared}
use Rattle.entering.proofs.Outset.{kind_number}
use Rattle.entering.specs.Written.{written_at}
use Rattle.chains.specs.Walk.{code_at, site_of}
use Rattle.call_table.proofs.Passing.{both_true}
use Rattle.unfolding.specs.CalleeTerm.{place_in, stand_in_term, written_term}
use Rattle.unfolding.specs.StandIn.{entry_of, level_of, outermost}
use Rattle.spelling.specs.Strings.{ShapesFit, shapes_of}
use Rattle.templates.specs.Alike.{FirstAlike, FirstsNoted, are_alike}
use Rattle.templates.specs.Shaped.{Along, ChainHeld, NextShape, ShapedBelow, StandInShape, first_stand_in}
use Rattle.templates.specs.Told.{Told}

-- Two declarations compared.
module _ (names : List ℕ) (facts : List Facts) (declared : List ℕ) (e f o p : ℕ) (here : o ≡ get_or declared e 0) (there : p ≡ get_or declared f 0) where
  pub alike-named : (a b c d : ℕ) (r : Bool) → a ≡ get_or names o 0 → b ≡ get_or names p 0 → a ≡ b → c ≡ kind_at facts o → d ≡ kind_at facts p → r ≡ eqb c d
      → r ≡ are_alike names facts declared e f
  unfolding are_alike
  alike-named a b c d r ea eb q ec ed h =
      h ∙ ap₂ eqb (ec ∙ ap (kind_at facts) here) (ed ∙ ap (kind_at facts) there)
      ∙ sym (ap (λ (y : Bool). y && eqb (kind_at facts (get_or declared e 0)) (kind_at facts (get_or declared f 0)))
      (eq-eqb (get_or names (get_or declared e 0) 0) (get_or names (get_or declared f 0) 0)
      (sym (ea ∙ ap (λ (i : ℕ). get_or names i 0) here) ∙ q ∙ eb ∙ ap (λ (i : ℕ). get_or names i 0) there)))

  pub alike-unnamed : (a b : ℕ) → a ≡ get_or names o 0 → b ≡ get_or names p 0 → (a ≡ b → ⊥) → false ≡ are_alike names facts declared e f
  unfolding are_alike
  alike-unnamed a b ea eb q =
      sym (ap (λ (y : Bool). y && eqb (kind_at facts (get_or declared e 0)) (kind_at facts (get_or declared f 0)))
      (ne_eqb (get_or names (get_or declared e 0) 0) (get_or names (get_or declared f 0) 0)
      (λ (z : get_or names (get_or declared e 0) 0 ≡ get_or names (get_or declared f 0) 0).
      q (ea ∙ ap (λ (i : ℕ). get_or names i 0) here ∙ z ∙ sym (eb ∙ ap (λ (i : ℕ). get_or names i 0) there)))))

module _ (names : List ℕ) (facts : List Facts) (declared : List ℕ) where
  -- The first that is like e.
  pub alike-found : (e f : ℕ) (b : Bool) → f < e → b ≡ are_alike names facts declared e f → b ≡ true → FirstAlike names facts declared e f
  alike-found e f b q h t = record { before = omega arith; alike = sym h ∙ t }

  pub alike-itself : (e : ℕ) → FirstAlike names facts declared e e
  unfolding are_alike
  alike-itself e = record { before = omega arith; alike = rw (eq-eqb (get_or names (get_or declared e 0) 0) _ refl, eq-eqb (kind_at facts (get_or declared e 0)) _ refl) refl }

  -- Those of the first e declarations have been noted.
  pub record Noting (firsts : List ℕ) (e : ℕ) : Type 0 where
    pub long : length firsts ≡ max_declarations
    pub each : (i : ℕ) → i < e → FirstAlike names facts declared i (get_or firsts i 0)

  pub noting-start : (firsts : List ℕ) → length firsts ≡ max_declarations → Noting firsts 0
  noting-start firsts q = record { long = q; each = λ i h. absurd (omega arith) }

  pub noting-turn : (firsts : List ℕ) (e f : ℕ) → Noting firsts e → e < max_declarations → FirstAlike names facts declared e f → Noting (set firsts e f) (e + 1)
  noting-turn firsts e f s l h = record { long = length-set firsts e f ∙ s.long; each = each }
    where
      each : (i : ℕ) → i < e + 1 → FirstAlike names facts declared i (get_or (set firsts e f) i 0)
      each i q = go (ltb i e) refl
        where
          go : (y : Bool) → ltb i e ≡ y → FirstAlike names facts declared i (get_or (set firsts e f) i 0)
          go true z =
              subst (FirstAlike names facts declared i) (sym (get_or-set_other firsts e i f 0 (λ (w : i ≡ e). omega (arith, ltb-true i e z)))) (s.each i (ltb-true i e z))
          go false z =
              let w : e ≡ i = omega (arith, ltb-false i e z) in
              subst (λ (y : ℕ). FirstAlike names facts declared y (get_or (set firsts e f) y 0)) w
              (subst (FirstAlike names facts declared e) (sym (get_or-set_same firsts e f 0 (omega (arith, s.long)))) h)

  pub noting-end : (firsts : List ℕ) (e : ℕ) → Noting firsts e → max_declarations ≤ e → FirstsNoted names facts declared firsts
  noting-end firsts e s l = record { long = s.long; each = λ i q. s.each i (omega arith) }

-- an argument count is none of the other kinds' numbers
kind-same : (j k : Kind) → kind_arity j ≤ max_arity → kind_arity k ≤ max_arity → kind_number j ≡ kind_number k → j ≡ k
kind-same (constant a) (constant b) p q e = ap constant e
kind-same (constant a) variable p q e = absurd (omega arith)
kind-same variable (constant b) p q e = absurd (omega arith)
kind-same variable variable p q e = refl

module _ (file refs : List ℕ) (v : Store) (n : ℕ) (numbers currents outers : List ℕ) where
  abbrev names : List ℕ
  names = v.names

  abbrev facts : List Facts
  facts = v.facts

  abbrev declared : List ℕ
  declared = v.declared

  -- declarations alike by the store are the same
  declared_same : (x : Told file refs v declared n) (e f : ℕ) → e < length x.decls → f < length x.decls → are_alike names facts declared e f ≡ true
      → get_or x.decls e no_declaration ≡ get_or x.decls f no_declaration
  unfolding are_alike
  declared_same x e f he hf h =
      let y =
      both_true (eqb (get_or names (get_or declared e 0) 0) (get_or names (get_or declared f 0) 0)) (eqb (kind_at facts (get_or declared e 0)) (kind_at facts (get_or declared f 0))) h in
      let c = x.ready.codes in
      let named : (get_or x.decls e no_declaration).1 ≡ (get_or x.decls f no_declaration).1 = sym (c.named e he) ∙ eqb-true _ _ y.0 ∙ c.named f hf in
      let kind : (get_or x.decls e no_declaration).0 ≡ (get_or x.decls f no_declaration).0 =
      kind-same _ _ (c.few e he) (c.few f hf) (sym (c.kind e he) ∙ eqb-true _ _ y.1 ∙ c.kind f hf) in
      ap₂ (λ (j : Kind) (i : ℕ). (j, i)) kind named

  -- and what stands for them
  term-same : (x : Told file refs v declared n) (l e f : ℕ) → get_or x.decls e no_declaration ≡ get_or x.decls f no_declaration
      → stand_in_term file refs v x.decls numbers currents outers l e ≡ stand_in_term file refs v x.decls numbers currents outers l f
  term-same x l e f same =
      let site = site_of facts (get_or outers l 0) (code_at facts (get_or currents l 0)) in
      ap (λ (y : Kind × ℕ). written_term file refs v x.decls (place_in numbers outers l) site y.0 y.1 (written_at site.count file site.start y.1)) same

  -- The shape of stand-in m.
  module _ (m : ℕ) (along : List ℕ) where
    -- none where there is no declaration
    pub next-none : n ≤ entry_of m → NextShape file refs v declared n m numbers currents outers along 0
    next-none q =
        record {
          small = λ fit. omega arith;
          right = λ x d k there chain fit below a. absurd (omega (arith, a.named.0, x.ready.numbered));
        }

    pub next-spelt : (r : ℕ) → StandInShape file refs v declared m numbers currents outers along r
        → NextShape file refs v declared n m numbers currents outers along r
    next-spelt r s = record { small = λ fit. s.small; right = λ x d k there chain fit below a. s.right n x d k there chain fit a }

    -- that of an earlier declaration
    pub next-alike : (firsts : List ℕ) (e f r : ℕ) → FirstsNoted names facts declared firsts → first_stand_in ≤ m → e ≡ entry_of m → f ≡ get_or firsts e 0 → f < e
        → r ≡ get_or along (m - e + f) 0 → NextShape file refs v declared n m numbers currents outers along r
    next-alike firsts e f r noted high qe qf before q = record { small = λ fit. subst (λ (y : ℕ). y < shape_limit) (sym q) (fit (m - e + f)); right = right }
      where
        h : FirstAlike names facts declared e f
        h = subst (FirstAlike names facts declared e) (sym qf) (noted.each e (omega arith))

        level : level_of (m - e + f) ≡ level_of m
        level = omega arith

        entry : entry_of (m - e + f) ≡ f
        entry = omega arith

        right : (x : Told file refs v declared n) (d k : ℕ) → d < x.counts.definitions → ChainHeld file refs v declared n d k numbers currents outers x → ShapesFit along
            → ShapedBelow file refs v declared n d k m numbers currents outers along x → Along file refs v declared n d k m x
            → r ≡ shape_of (spell (shapes_of along) (stand_in_term file refs v x.decls numbers currents outers (level_of m - 1) (entry_of m)))
        right x d k there chain fit below a =
            let he : e < length x.decls = omega (arith, a.named.0) in
            let hf : f < length x.decls = omega arith in
            let same : get_or x.decls (entry_of m) no_declaration ≡ get_or x.decls (entry_of (m - e + f)) no_declaration =
            ap (λ (j : ℕ). get_or x.decls j no_declaration) (sym qe) ∙ declared_same x e f he hf h.alike
            ∙ ap (λ (j : ℕ). get_or x.decls j no_declaration) (sym entry) in
            let b : Along file refs v declared n d k (m - e + f) x =
            record {
              high = omega arith;
              level = omega (arith, level, a.level);
              named = (
                omega (arith, entry),
                subst (λ (j : ℕ). Declared AnyName (outermost j (world_of x.rows d)) (get_or x.decls (entry_of (m - e + f)) no_declaration).0 (get_or x.decls (entry_of (m - e + f)) no_declaration).1)
                    (sym level) (subst (λ (y : Kind × ℕ). Declared AnyName (outermost (level_of m) (world_of x.rows d)) y.0 y.1) same a.named.1),
              );
            } in
            q ∙ below (m - e + f) (omega arith) b
            ∙ ap (λ (j : ℕ). shape_of (spell (shapes_of along) (stand_in_term file refs v x.decls numbers currents outers (j - 1) (entry_of (m - e + f))))) level
            ∙ ap (λ (t : Term). shape_of (spell (shapes_of along) t)) (sym (term-same x (level_of m - 1) (entry_of m) (entry_of (m - e + f)) same))
