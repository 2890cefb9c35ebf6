-- Each way through the code that reads substitutions, with the facts that the code has there as premises.
-- Assumes nothing.
use mathlib.Core.Path.{◌≡◌, sym, ◌∙◌}
use mathlib.Core.Bool.{Bool, true, false, cond}
use mathlib.Core.List.{List}
use Prim.Native.Nat.{ℕ, zero, suc, ◌+◌, ◌-◌, ◌^◌, ◌≤◌, ◌<◌}
use native.Mathlib.Omega.{arith}
use mir.Syntax.{w64}
use mir.Val.{Fits}
use lib.Dec.{ltb, eqb}
use lib.ListN.{length, take, drop}
use borrow.Author.Tests.{lt-ltb, le-ltb, eq-eqb, ne_eqb, ltb-false}
use Rattle.tokens.specs.Token.{number_at}
use Rattle.tokens.specs.Expr.{whole_of}
use Rattle.tokens.proofs.Places.{never, cases}
use Rattle.fields.specs.Substitution.{next_substitution, substitution_at, substitution_fits, substitutions_fit}
use Rattle.fields.specs.declared.substitutions.Substitution.{Substitution}

module _ (p : List ℕ) where
  -- substitutions
  pub fits-short : (at : ℕ) → length p - at < 4 → false ≡ substitution_fits p at
  unfolding substitution_fits
  fits-short at l = rw (lt-ltb (length p - at) 4 l)

  pub fits-zero : (at n : ℕ) → 4 ≤ length p - at → n ≡ number_at p at → n ≡ 0 → false ≡ substitution_fits p at
  unfolding substitution_fits
  fits-zero at n l e h = rw (le-ltb (length p - at) 4 l, ← e, eq-eqb n 0 h)

  pub fits-over : (at n m : ℕ) → 4 ≤ length p - at → n ≡ number_at p at → (n ≡ 0 → ⊥) → m ≡ number_at p (at + 2) → length p - (at + 4) < m → false ≡ substitution_fits p at
  unfolding substitution_fits
  fits-over at n m l e h f o = rw (le-ltb (length p - at) 4 l, ← e, ne_eqb n 0 h, ← f, lt-ltb (length p - (at + 4)) m o)

  pub fits_whole : (at n m : ℕ) (w : Bool) → w ≡ whole_of (take ((at + 4 + m) - (at + 4)) (drop (at + 4) p)) → 4 ≤ length p - at → n ≡ number_at p at → (n ≡ 0 → ⊥)
      → m ≡ number_at p (at + 2) → m ≤ length p - (at + 4) → w ≡ substitution_fits p at
  unfolding substitution_fits
  fits_whole at n m w g l e h f o =
      let d : (at + 4 + m) - (at + 4) ≡ m = omega arith in
      rw (le-ltb (length p - at) 4 l, ← e, ne_eqb n 0 h, ← f, le-ltb (length p - (at + 4)) m o) (g ∙ rw d)

  -- a substitution that fits is there whole
  abbrev Room : ℕ → Bool → Type 0
  Room at b = b ≡ true → at + 4 + number_at p (at + 2) ≤ length p

  room : (at : ℕ) → Room at (substitution_fits p at)
  unfolding substitution_fits
  room at =
      let m = number_at p (at + 2) in
      cases (Room at) (ltb (length p - at) 4) (λ _ e. never e)
      (λ (l : ltb (length p - at) 4 ≡ false). cases (Room at) (eqb (number_at p at) 0) (λ _ e. never e)
      (λ _. cases (Room at) (ltb (length p - (at + 4)) m) (λ _ e. never e)
      (λ (k : ltb (length p - (at + 4)) m ≡ false) e. omega (arith, ltb-false (length p - at) 4 l, ltb-false (length p - (at + 4)) m k))))

  pub in-room : (at : ℕ) (b : Bool) (x : Substitution) → b ≡ substitution_fits p at → b ≡ true → x ≡ substitution_at p at → x.start + x.len ≤ length p
  in-room at b x e h q = rw q (room at (sym e ∙ h))

  pub in-fits : (at : ℕ) (b : Bool) (x : Substitution) → b ≡ substitution_fits p at → b ≡ true → x ≡ substitution_at p at → length p < 2 ^ 64 → Fits w64 (x.start + x.len)
  in-fits at b x e h q l = let r = in-room at b x e h q in omega arith

  pub substitution-there : (at n m : ℕ) → n ≡ number_at p at → m ≡ number_at p (at + 2) → record { name = n; start = at + 4; len = m } ≡ substitution_at p at
  substitution-there at n m e f = rw (e, f)

  fits_first : (left at : ℕ) → 0 < left
      → substitutions_fit left p at ≡ cond (substitution_fits p at) (substitutions_fit (left - 1) p (next_substitution p at)) false
  unfolding substitutions_fit
  fits_first zero at l = absurd (omega arith)
  fits_first (suc left) at l = let d : suc left - 1 ≡ left = omega arith in rw d

  module _ (k from i at : ℕ) (v : substitutions_fit (k - i) p at ≡ substitutions_fit k p from) where
    pub substitution-bad : (b : Bool) → i < k → b ≡ substitution_fits p at → b ≡ false → false ≡ substitutions_fit k p from
    substitution-bad b l e h = rw (fits_first (k - i) at (omega arith), ← e, h) at v

    pub substitution-next : (b : Bool) (x : Substitution) → i < k → b ≡ substitution_fits p at → b ≡ true → x ≡ substitution_at p at
        → substitutions_fit (k - (i + 1)) p (x.start + x.len) ≡ substitutions_fit k p from
    substitution-next b x l e h q =
        let d : k - (i + 1) ≡ k - i - 1 = omega arith in
        rw (d, q) (rw (fits_first (k - i) at (omega arith), ← e, h) at v)

    pub substitution-end : k ≤ i → eqb at (length p) ≡ substitutions_fit k p from
    unfolding substitutions_fit
    substitution-end l = let d : k - i ≡ 0 = omega arith in rw d at v
