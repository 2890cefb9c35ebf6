-- Strings where they stand, cut in two, and the arguments of a call that stand one after another.
use mathlib.Core.Bool.{Bool, cond, false, true}
use mathlib.Core.List.{List, [], ◌++◌, ◌∷◌, append_assoc}
use mathlib.Core.Path.{◌∙◌, ◌≡◌, ap, refl, subst, sym}
use lib.Dec.{eqb}
use lib.ListN.{length, length-append}
use native.Mathlib.Nat.{add-zero}
use native.Mathlib.Omega.{arith}
use Prim.Native.Nat.{ℕ, zero, suc, ◌+◌, ◌/◌, ◌%◌, ◌^◌, ◌<◌, ◌≤◌}
use Rattle.symbols.proofs.Scanning.{piece-size}
use Rattle.symbols.proofs.Shaping.{shaped-any}
use Rattle.symbols.proofs.Sizes.{bytes-append, size-append}
use Rattle.symbols.specs.Pieces.{ShapedHead}
use Rattle.symbols.specs.Spell.{masked, spell}
use Rattle.symbols.specs.Symbol.{At, Spelt, Symbol, bytes_of, size, symbol_bytes}
use Rattle.strings.proofs.Reading.{stands, symbol-reads}
use Rattle.strings.specs.Read.{far, is_far, shape_in, string_at, symbol_at, width_of}
use Rattle.theory.proofs.Lists.{never, or-false}
use Rattle.theory.specs.Expand.{nothing}
use Rattle.theory.specs.Term.{Every, Everys, Term, Terms}
use Rattle.theory.specs.Tree.{◌▹◌, count, nth, ⟨⟩}
use Rattle.rewriting.proofs.Bits.{no-bit, none_both}
use Rattle.rewriting.specs.Ends.{bit_at, end_of, last_from}

at_split : (s : List ℕ) (x : ℕ) (xs ys : List ℕ) → At s x (xs ++ ys) → At s x xs × At s (x + length xs) ys
at_split s x [] ys a = (tt, rw add-zero a)
at_split s x (b ∷ xs) ys a =
    let r = at_split s (suc x) xs ys a.1 in
    let e : x + length (b ∷ xs) ≡ suc x + length xs = omega arith in
    ((a.0, r.0), rw e r.1)

at_join : (s : List ℕ) (x : ℕ) (xs ys : List ℕ) → At s x xs → At s (x + length xs) ys → At s x (xs ++ ys)
at_join s x [] ys a b = rw add-zero at b
at_join s x (c ∷ xs) ys a b =
    let e : x + length (c ∷ xs) ≡ suc x + length xs = omega arith in
    (a.0, at_join s (suc x) xs ys a.1 (rw e at b))

pub spelt-split : (s : List ℕ) (x y : ℕ) (gs hs : List Symbol) → Spelt s x (gs ++ hs) y → Spelt s x gs (x + size gs) × Spelt s (x + size gs) hs y
spelt-split s x y gs hs p =
    let a = at_split s x (bytes_of gs) (bytes_of hs) (subst (λ (bs : List ℕ). At s x bs) (bytes-append gs hs) p.0) in
    let z = size-append gs hs in
    let e = p.1 in
    ((a.0, refl), (a.1, omega arith))

pub spelt-join : (s : List ℕ) (x y z : ℕ) (gs hs : List Symbol) → Spelt s x gs y → Spelt s y hs z → Spelt s x (gs ++ hs) z
spelt-join s x y z gs hs p r =
    let e = p.1 in
    let f = r.1 in
    let w = size-append gs hs in
    let b : At s (x + size gs) (bytes_of hs) = subst (λ (i : ℕ). At s i (bytes_of hs)) e r.0 in
    (subst (λ (bs : List ℕ). At s x bs) (sym (bytes-append gs hs)) (at_join s x (bytes_of gs) (bytes_of hs) p.0 b), omega arith)

-- the first symbol of what stands
pub record Front (s : List ℕ) (x : ℕ) (gs : List Symbol) (y : ℕ) : Type 0 where
  pub first : Symbol
  pub more : List Symbol
  pub whole : gs ≡ first ∷ more
  pub reads : symbol_at s x ≡ first
  pub here : Spelt s x (first ∷ []) (x + width_of first)
  pub next : Spelt s (x + width_of first) more y
  pub inside : x + width_of first ≤ y

pub front : (s : List ℕ) (x : ℕ) (gs : List Symbol) (y : ℕ) → Spelt s x gs y → x < y → far gs ≡ false → Front s x gs y
front s x [] y p l f = let e = p.1 in absurd (omega arith)
front s x (g ∷ gs) y p l f =
    let a = at_split s x (symbol_bytes g) (bytes_of gs) p.0 in
    let e = p.1 in
    let z : length (symbol_bytes g ++ bytes_of gs) ≡ length (symbol_bytes g) + length (bytes_of gs) = length-append (symbol_bytes g) (bytes_of gs) in
    let n : length (symbol_bytes g ++ []) ≡ length (symbol_bytes g) + 0 = length-append (symbol_bytes g) [] in
    let o = or-false (is_far g) (far gs) f in
    record {
      first = g;
      more = gs;
      whole = refl;
      reads = symbol-reads s x g a.0 o.0;
      here = (at_join s x (symbol_bytes g) [] a.0 tt, omega arith);
      next = (a.1, omega arith);
      inside = omega arith;
    }

-- The arguments whose bits are set stand one after another, and ks after them.
pub record Found (a shapes : List ℕ) (σ : ℕ → ℕ) (us : Terms) (ks : List Symbol) (k h at : ℕ) : Type 0 where
  pub each : (i : ℕ) → i < k → bit_at i h ≡ true → string_at a (last_from a shapes i h at) (last_from a shapes (suc i) h at) ≡ spell σ (nth nothing us i)
  pub left : Spelt a (last_from a shapes k h at) ks (length a)

module _ (a shapes : List ℕ) (σ : ℕ → ℕ) (same : shape_in shapes ≡ σ) (ks : List Symbol) where
  none_last : (k at : ℕ) → last_from a shapes k 0 at ≡ at
  unfolding end_of
  none_last zero at = refl
  none_last (suc k) at = none_last k at

  no_arguments : (k h at : ℕ) → h ≡ 0 → Spelt a at ks (length a) → Found a shapes σ ⟨⟩ ks k h at
  no_arguments k h at e p =
      record {
        each = λ i l b. never (sym b ∙ ap (bit_at i) e ∙ no-bit i);
        left = rw e (rw (none_last k at) p);
      }

  end-set : (h at : ℕ) (t : Term) (hs : List Symbol) (d : ℕ) → Every (ShapedHead σ) d t → eqb (h % 2) 1 ≡ true → far (spell σ t ++ hs) ≡ false
      → Spelt a at (spell σ t ++ hs) (length a) → end_of a shapes h at ≡ at + size (spell σ t)
  unfolding end_of
  end-set h at t hs d w b f p =
      let r : string_at a at (length a) ≡ spell σ t ++ hs = stands a at (spell σ t ++ hs) (length a) p (omega arith) f in
      rw (b, same, r, piece-size σ t hs (shaped-any σ t d 0 w))

  end-clear : (h at : ℕ) → eqb (h % 2) 1 ≡ false → end_of a shapes h at ≡ at
  unfolding end_of
  end-clear h at b = rw b

  one : (k h at : ℕ) (t : Term) (ts : Terms) (b : Bool) → eqb (h % 2) 1 ≡ b
      → (b ≡ true → string_at a at (end_of a shapes h at) ≡ spell σ t) → Found a shapes σ ts ks k (h / 2) (end_of a shapes h at) → Found a shapes σ (t ▹ ts) ks (suc k) h at
  one k h at t ts b e f later = record { each = each; left = later.left }
    where
      each : (i : ℕ) → i < suc k → bit_at i h ≡ true
          → string_at a (last_from a shapes i h at) (last_from a shapes (suc i) h at) ≡ spell σ (nth nothing (t ▹ ts) i)
      each zero l c = f (sym e ∙ c)
      each (suc i) l c = later.each i (omega arith) c

  pub found : (k : ℕ) (us : Terms) (h at d : ℕ) (s : ℕ → ℕ) → count us ≤ k → h < 2 ^ count us → Everys (ShapedHead σ) d s us
      → far (masked σ h us ++ ks) ≡ false → Spelt a at (masked σ h us ++ ks) (length a) → Found a shapes σ us ks k h at
  found k ⟨⟩ h at d s l u w f p = no_arguments k h at (omega arith) p
  found zero (t ▹ ts) h at d s l u w f p = absurd (omega arith)
  found (suc k) (t ▹ ts) h at d s l u w f p =
      let u' : h < 2 ^ suc (count ts) = u in
      go (eqb (h % 2) 1) refl f p (λ x g r. found k ts (h / 2) x d (λ i. s (suc i)) (omega arith) (omega (arith, u')) w.1 g r)
    where
      go : (b : Bool) → eqb (h % 2) 1 ≡ b → far ((cond b (spell σ t) [] ++ masked σ (h / 2) ts) ++ ks) ≡ false
          → Spelt a at ((cond b (spell σ t) [] ++ masked σ (h / 2) ts) ++ ks) (length a)
          → ((x : ℕ) → far (masked σ (h / 2) ts ++ ks) ≡ false → Spelt a x (masked σ (h / 2) ts ++ ks) (length a) → Found a shapes σ ts ks k (h / 2) x)
          → Found a shapes σ (t ▹ ts) ks (suc k) h at
      go true e g r more =
          let hs : List Symbol = masked σ (h / 2) ts ++ ks in
          let asc : (spell σ t ++ masked σ (h / 2) ts) ++ ks ≡ spell σ t ++ hs = append_assoc (spell σ t) (masked σ (h / 2) ts) ks in
          let g' : far (spell σ t ++ hs) ≡ false = ap far (sym asc) ∙ g in
          let r' : Spelt a at (spell σ t ++ hs) (length a) = subst (λ (z : List Symbol). Spelt a at z (length a)) asc r in
          let o = none_both is_far (spell σ t) hs g' in
          let c = spelt-split a at (length a) (spell σ t) hs r' in
          let end : end_of a shapes h at ≡ at + size (spell σ t) = end-set h at t hs (s 0 + d) w.0 e g' r' in
          let z = c.1.1 in
          one k h at t ts true e
          (λ b. ap (string_at a at) end ∙ stands a at (spell σ t) (at + size (spell σ t)) c.0 (omega arith) o.0)
          (more (end_of a shapes h at) o.1 (subst (λ (y : ℕ). Spelt a y hs (length a)) (sym end) c.1))
      go false e g r more =
          let end : end_of a shapes h at ≡ at = end-clear h at e in
          one k h at t ts false e (λ b. never (sym b)) (more (end_of a shapes h at) g (subst (λ (y : ℕ). Spelt a y (masked σ (h / 2) ts ++ ks) (length a)) (sym end) r))
