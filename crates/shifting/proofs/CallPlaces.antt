-- Where each argument of a call begins and ends among those that stand after the call.
use mathlib.Core.Bool.{Bool, cond, false, true}
use mathlib.Core.List.{List, [], ◌++◌, append_assoc}
use mathlib.Core.Path.{◌∙◌, ◌≡◌, ap, refl, subst, sym}
use lib.Dec.{eqb}
use lib.ListN.{length}
use native.Mathlib.Nat.{zero-add}
use native.Mathlib.Omega.{arith}
use Prim.Native.Nat.{ℕ, zero, suc, ◌+◌, ◌/◌, ◌%◌, ◌^◌, ◌<◌, ◌≤◌}
use Rattle.symbols.proofs.Scanning.{piece-size}
use Rattle.symbols.proofs.Shaping.{shaped-any}
use Rattle.symbols.proofs.Sizes.{size-append}
use Rattle.symbols.specs.Pieces.{ShapedHead, scan}
use Rattle.symbols.specs.Spell.{masked, spell}
use Rattle.symbols.specs.Symbol.{Spelt, Symbol, size}
use Rattle.strings.proofs.Reading.{stands}
use Rattle.strings.specs.Read.{far, is_far, shape_in, string_at}
use Rattle.theory.proofs.Lists.{never}
use Rattle.theory.specs.Expand.{nothing}
use Rattle.theory.specs.Level.{binds_in, plain}
use Rattle.theory.specs.Term.{Every, Everys, Head, Term, Terms}
use Rattle.theory.specs.Tree.{◌▹◌, count, nth, ⟨⟩}
use Rattle.rewriting.proofs.Bits.{no-bit, none_both}
use Rattle.rewriting.proofs.Found.{spelt-split}
use Rattle.rewriting.specs.Ends.{bit_at, end_of, last_from}

-- argument i of a call, and what stands before and after it of the arguments
pub record ArgumentAt (a shapes : List ℕ) (σ : ℕ → ℕ) (us : Terms) (h at i : ℕ) : Type 0 where
  pub inside : i < count us
  pub ahead : List Symbol
  pub behind : List Symbol
  pub split : masked σ h us ≡ ahead ++ (spell σ (nth nothing us i) ++ behind)
  pub begins : last_from a shapes i h at ≡ at + size ahead
  pub ends : last_from a shapes (suc i) h at ≡ at + size ahead + size (spell σ (nth nothing us i))

module _ (P : ℕ → Head → ℕ → Type 0) (k : ℕ) where
  pub nth-every : (us : Terms) (i : ℕ) → Everys P k (binds_in plain) us → i < count us → Every P k (nth nothing us i)
  nth-every ⟨⟩ i w l = absurd (omega arith)
  nth-every (t ▹ ts) zero w l = subst (λ (m : ℕ). Every P m t) (zero-add k) w.0
  nth-every (t ▹ ts) (suc i) w l = nth-every ts i w.1 (omega arith)

half-below : (h k : ℕ) → h < 2 ^ suc k → h / 2 < 2 ^ k
half-below h k u = omega (arith, u)

module _ (a shapes : List ℕ) (σ : ℕ → ℕ) (same : shape_in shapes ≡ σ) (ks : List Symbol) where
  -- what stands of the first argument, and where it ends
  abbrev first : ℕ → Term → List Symbol
  first h t = cond (eqb (h % 2) 1) (spell σ t) []

  first-end : (h at : ℕ) (t : Term) (hs : List Symbol) (d : ℕ) → Every (ShapedHead σ) d t → far (first h t ++ hs) ≡ false
      → Spelt a at (first h t ++ hs) (length a) → end_of a shapes h at ≡ at + size (first h t)
  unfolding end_of
  first-end h at t hs d w = go (eqb (h % 2) 1)
    where
      go : (b : Bool) → far (cond b (spell σ t) [] ++ hs) ≡ false → Spelt a at (cond b (spell σ t) [] ++ hs) (length a)
          → cond b (at + scan (shape_in shapes) 1 0 (string_at a at (length a))) at ≡ at + size (cond b (spell σ t) [])
      go true f p =
          let r : string_at a at (length a) ≡ spell σ t ++ hs = stands a at (spell σ t ++ hs) (length a) p (omega arith) f in
          rw (same, r, piece-size σ t hs (shaped-any σ t d 0 w))
      go false f p = omega arith

  later-placed : (t : Term) (ts : Terms) (h at i : ℕ) → end_of a shapes h at ≡ at + size (first h t) → ArgumentAt a shapes σ ts (h / 2) (end_of a shapes h at) i
      → ArgumentAt a shapes σ (t ▹ ts) h at (suc i)
  later-placed t ts h at i end r =
      let l = size-append (first h t) r.ahead in
      record {
        inside = omega arith;
        ahead = first h t ++ r.ahead;
        behind = r.behind;
        split = ap (λ (gs : List Symbol). first h t ++ gs) r.split ∙ sym (append_assoc (first h t) r.ahead (spell σ (nth nothing ts i) ++ r.behind));
        begins = omega arith;
        ends = omega arith;
      }

  pub placed : (us : Terms) (h at d : ℕ) (s : ℕ → ℕ) (i : ℕ) → h < 2 ^ count us → Everys (ShapedHead σ) d s us → far (masked σ h us ++ ks) ≡ false
      → Spelt a at (masked σ h us ++ ks) (length a) → bit_at i h ≡ true → ArgumentAt a shapes σ us h at i
  placed ⟨⟩ h at d s i u w f p b =
      let e : h ≡ 0 = omega arith in
      never (sym b ∙ ap (bit_at i) e ∙ no-bit i)
  placed (t ▹ ts) h at d s zero u w f p b =
      let hs : List Symbol = masked σ (h / 2) ts in
      let asc : (first h t ++ hs) ++ ks ≡ first h t ++ (hs ++ ks) = append_assoc (first h t) hs ks in
      let z : first h t ≡ spell σ t = ap (λ (c : Bool). cond c (spell σ t) []) b in
      let p' : Spelt a at (first h t ++ (hs ++ ks)) (length a) = subst (λ (gs : List Symbol). Spelt a at gs (length a)) asc p in
      let end : end_of a shapes h at ≡ at + size (first h t) = first-end h at t (hs ++ ks) (s 0 + d) w.0 (ap far (sym asc) ∙ f) p' in
      record {
        inside = omega arith;
        ahead = [];
        behind = hs;
        split = ap (λ (gs : List Symbol). gs ++ hs) z;
        begins = omega arith;
        ends = end ∙ ap (λ (gs : List Symbol). at + size gs) z ∙ ap (λ (m : ℕ). m + size (spell σ t)) (omega arith);
      }
  placed (t ▹ ts) h at d s (suc i) u w f p b =
      let hs : List Symbol = masked σ (h / 2) ts in
      let asc : (first h t ++ hs) ++ ks ≡ first h t ++ (hs ++ ks) = append_assoc (first h t) hs ks in
      let f' : far (first h t ++ (hs ++ ks)) ≡ false = ap far (sym asc) ∙ f in
      let p' : Spelt a at (first h t ++ (hs ++ ks)) (length a) = subst (λ (gs : List Symbol). Spelt a at gs (length a)) asc p in
      let end : end_of a shapes h at ≡ at + size (first h t) = first-end h at t (hs ++ ks) (s 0 + d) w.0 f' p' in
      let c = spelt-split a at (length a) (first h t) (hs ++ ks) p' in
      later-placed t ts h at i end
      (placed ts (h / 2) (end_of a shapes h at) d (λ j. s (suc j)) i (half-below h (count ts) u) w.1 (none_both is_far (first h t) (hs ++ ks) f').1
      (subst (λ (y : ℕ). Spelt a y (hs ++ ks) (length a)) (sym end) c.1) b)

module _ (a shapes : List ℕ) where
  -- there are no arguments after those of the set bits
  none_last : (k at : ℕ) → last_from a shapes k 0 at ≡ at
  unfolding end_of
  none_last zero at = refl
  none_last (suc k) at = none_last k at

  pub last_more : (k m h at : ℕ) → h < 2 ^ k → k ≤ m → last_from a shapes k h at ≡ last_from a shapes m h at
  last_more zero m h at u l =
      let e : h ≡ 0 = omega arith in
      rw e (sym (none_last m at))
  last_more (suc k) zero h at u l = absurd (omega arith)
  last_more (suc k) (suc m) h at u l = last_more k m (h / 2) (end_of a shapes h at) (half-below h k u) (omega arith)

pub bit-within : (i k h : ℕ) → h < 2 ^ k → bit_at i h ≡ true → i < k
bit-within i zero h u b =
    let e : h ≡ 0 = omega arith in
    never (sym b ∙ ap (bit_at i) e ∙ no-bit i)
bit-within zero (suc k) h u b = omega arith
bit-within (suc i) (suc k) h u b =
    let r = bit-within i k (h / 2) (half-below h k u) b in
    omega arith
