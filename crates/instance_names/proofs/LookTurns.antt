-- The walks over the substitutions, one after another; and the causes in their order.
use borrow.Author.Tests.{le-leb, le-ltb, lt-leb, lt-ltb}
use mathlib.Core.Bool.{Bool, ◌||◌, false, or_assoc, or-false, true}
use mathlib.Core.List.{List, [], ◌∷◌}
use mathlib.Core.Path.{◌∙◌, ◌≡◌, ap, refl, subst, sym}
use Prim.Native.Nat.{ℕ, suc, ◌+◌, ◌-◌, ◌≤◌, ◌<◌}
use native.Mathlib.Omega.{arith}
use lib.ListN.{length}
use Rattle.limits.specs.Limits.{max_nesting}
use Rattle.tokens.specs.Expr.{expr_at}
use Rattle.tokens.specs.Token.{number_at}
use Rattle.context.specs.Entries.{context_codes}
use Rattle.resolve.specs.Walk.{Looks}
use Rattle.judge_plain.specs.Causes.{early}
use Rattle.judge_plain.specs.declared.Phase.{Phase}
use Rattle.instance_names.specs.Causes.{NameCauses, first_causes, first_number, name_causes}
use Rattle.instance_names.specs.Looking.{LooksEach, LooksOne}
use Rattle.instance_names.specs.Sites.{miscounted_among, unknown_among, arity_there, clashes_at, next_start, over_limits, repeated_from, starts, undeclared_in}
use Rattle.instance_names.specs.declared.Site.{Site}
use Rattle.store.specs.declared.Facts.{Facts}

module _ (file names : List ℕ) (facts : List Facts) (contexts heads : List ℕ) (x : Site) where
  pub look_one : (at n k p y : ℕ) (refs refs' : List ℕ) (u w : Bool) → n ≡ number_at file at → k ≡ arity_there names facts contexts heads x n → p ≡ x.params + k
      → Looks names facts (context_codes contexts heads x.modules) p 0 (expr_at max_nesting file (at + 4)) refs refs' u w y
      → LooksOne file names facts contexts heads x at refs refs' u w y
  unfolding LooksOne
  look_one at n k p y refs refs' u w e f g h =
      subst (λ (q : ℕ). Looks names facts (context_codes contexts heads x.modules) q 0 (expr_at max_nesting file (at + 4)) refs refs' u w y)
      (g ∙ ap (λ (z : ℕ). x.params + z) (f ∙ ap (arity_there names facts contexts heads x) e)) h

  -- What was looked at so far: however the rest is done, all is done.
  pub record Looked (refs₀ refs : List ℕ) (at left : ℕ) (u w : Bool) : Type 0 where
    pub finish : (refs₂ : List ℕ) (u₂ w₂ : Bool) → LooksEach file names facts contexts heads x (starts left file at) refs refs₂ u₂ w₂
        → LooksEach file names facts contexts heads x (starts x.count file x.at) refs₀ refs₂ (u || u₂) (w || w₂)

  pub look-start : (refs : List ℕ) → Looked refs refs x.at (x.count - 0) false false
  look-start refs = let d : x.count - 0 ≡ x.count = omega arith in rw d (record { finish = λ refs₂ u₂ w₂ h. h })

  ended : (refs₀ refs : List ℕ) (at left : ℕ) (u w : Bool) → Looked refs₀ refs at left u w → starts left file at ≡ []
      → LooksEach file names facts contexts heads x (starts x.count file x.at) refs₀ refs u w
  unfolding LooksEach
  ended refs₀ refs at left u w so e =
      let all = so.finish refs false false
      (subst (λ (l : List ℕ). LooksEach file names facts contexts heads x l refs refs false false) (sym e) (refl, refl, refl)) in
      subst (λ (b : Bool). LooksEach file names facts contexts heads x (starts x.count file x.at) refs₀ refs u b) (or-false w)
      (subst (λ (b : Bool). LooksEach file names facts contexts heads x (starts x.count file x.at) refs₀ refs b (w || false)) (or-false u) all)

  module _ (refs₀ refs : List ℕ) (at i : ℕ) (u w : Bool) (so : Looked refs₀ refs at (x.count - i) u w) where
    pub look-end : x.count ≤ i → LooksEach file names facts contexts heads x (starts x.count file x.at) refs₀ refs u w
    unfolding starts
    look-end h = ended refs₀ refs at (x.count - i) u w so (let d : x.count - i ≡ 0 = omega arith in rw d refl)

    pub look-past : i < x.count → length file < at → LooksEach file names facts contexts heads x (starts x.count file x.at) refs₀ refs u w
    unfolding starts
    look-past h p =
        let d : x.count - i ≡ suc (x.count - (i + 1)) = omega arith in
        ended refs₀ refs at (x.count - i) u w so (rw (d, lt-ltb (length file) at p))

    pub look-turn : (refs₁ : List ℕ) (u₁ w₁ u' w' : Bool) (y next : ℕ) → i < x.count → at ≤ length file → LooksOne file names facts contexts heads x at refs refs₁ u₁ w₁ y
        → u' ≡ (u || u₁) → w' ≡ (w || w₁) → next ≡ next_start file at → Looked refs₀ refs₁ next (x.count - (i + 1)) u' w'
    unfolding LooksEach starts
    look-turn refs₁ u₁ w₁ u' w' y next h p one e f g = record {
      finish = λ refs₂ u₂ w₂ rest.
          let all = so.finish refs₂ (u₁ || u₂) (w₁ || w₂)
          (subst (λ (l : List ℕ). LooksEach file names facts contexts heads x l refs refs₂ (u₁ || u₂) (w₁ || w₂)) (sym turn)
          (record { between = refs₁; y = y; u₁ = u₁; w₁ = w₁; u₂ = u₂; w₂ = w₂; one = one; rest = rest; unknown = refl; miscounted = refl })) in
          subst (λ (b : Bool). LooksEach file names facts contexts heads x (starts x.count file x.at) refs₀ refs₂ (u' || u₂) b)
          (sym (or_assoc w w₁ w₂) ∙ ap (λ (b : Bool). b || w₂) (sym f))
          (subst (λ (b : Bool). LooksEach file names facts contexts heads x (starts x.count file x.at) refs₀ refs₂ b (w || (w₁ || w₂)))
          (sym (or_assoc u u₁ u₂) ∙ ap (λ (b : Bool). b || u₂) (sym e)) all);
    }
      where
        turn : starts (x.count - i) file at ≡ at ∷ starts (x.count - (i + 1)) file next
        turn = let d : x.count - i ≡ suc (x.count - (i + 1)) = omega arith in rw (d, le-ltb (length file) at p, g)

-- 4, 5, 7, 8
module _ (file names : List ℕ) (facts : List Facts) (contexts orders heads : List ℕ) (phase : Phase) (definitions : ℕ) (x : Site) (n : ℕ) (a : Bool) (first : a ≡ early phase 6) where
  pub cause-4 : a ≡ true → 4 ≡ first_number (first_causes file names facts contexts orders heads phase definitions x n)
  unfolding first_causes
  cause-4 h = rw (← first, h)

  module _ (in_order : a ≡ false) (b : Bool) (second : b ≡ over_limits file names facts contexts orders heads x definitions) where
    pub cause-5 : b ≡ true → 5 ≡ first_number (first_causes file names facts contexts orders heads phase definitions x n)
    unfolding first_causes
    cause-5 h = rw (← first, in_order, ← second, h)

    pub cause-7 : b ≡ false → x.modules ≤ x.source → 7 ≡ first_number (first_causes file names facts contexts orders heads phase definitions x n)
    unfolding first_causes
    cause-7 h l = rw (← first, in_order, ← second, h, le-leb x.modules x.source l)

    module _ (kept : b ≡ false) (ended : x.source < x.modules) (d : Bool) (third : d ≡ clashes_at names contexts heads x n) where
      pub cause-8 : d ≡ true → 8 ≡ first_number (first_causes file names facts contexts orders heads phase definitions x n)
      unfolding first_causes
      cause-8 h = rw (← first, in_order, ← second, kept, lt-leb x.modules x.source ended, ← third, h)

      pub cause-none : d ≡ false → 0 ≡ first_number (first_causes file names facts contexts orders heads phase definitions x n)
      unfolding first_causes
      cause-none h = rw (← first, in_order, ← second, kept, lt-leb x.modules x.source ended, ← third, h)

-- 9, 10, 11
module _ (file names : List ℕ) (facts : List Facts) (contexts heads : List ℕ) (x : Site) (refs refs' : List ℕ) (u w : Bool)
    (looks : LooksEach file names facts contexts heads x (starts x.count file x.at) refs refs' u w) (a : Bool)
    (first : a ≡ (u || unknown_among file names facts contexts heads x (context_codes contexts heads x.source))) where
  caused : (r : ℕ) → r ≡ first_number (name_causes file names facts contexts heads x u w) → NameCauses file names facts contexts heads x refs refs' r
  caused r e = record { u = u; w = w; looks = looks; cause = e }

  pub names-9 : a ≡ true → NameCauses file names facts contexts heads x refs refs' 9
  unfolding name_causes
  names-9 h = caused 9 (rw (← first, h))

  module _ (known : a ≡ false) (b : Bool) (second : b ≡ (w || miscounted_among file names facts contexts heads x (context_codes contexts heads x.source))) where
    pub names-10 : b ≡ true → NameCauses file names facts contexts heads x refs refs' 10
    unfolding name_causes
    names-10 h = caused 10 (rw (← first, known, ← second, h))

    module _ (counted : b ≡ false) (d : Bool) (third : d ≡ (undeclared_in file names facts contexts heads x x.count x.at || repeated_from file x.count x.at)) where
      pub names-11 : d ≡ true → NameCauses file names facts contexts heads x refs refs' 11
      unfolding name_causes
      names-11 h = caused 11 (rw (← first, known, ← second, counted, ← third, h))

      pub names-none : d ≡ false → NameCauses file names facts contexts heads x refs refs' 0
      unfolding name_causes
      names-none h = caused 0 (rw (← first, known, ← second, counted, ← third, h))
