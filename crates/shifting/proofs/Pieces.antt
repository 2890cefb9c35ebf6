-- A shifted string ends where the string did: the strings of the terms that stand one after another in it are found again.
use mathlib.Core.Bool.{Bool, ◌&&◌, cond, false, true}
use mathlib.Core.List.{List, [], ◌++◌, ◌∷◌, append_assoc}
use mathlib.Core.Path.{◌∙◌, ◌≡◌, ap, ap₂, refl, sym}
use lib.Dec.{eqb}
use lib.ListN.{drop, length-append}
use native.Mathlib.Omega.{arith}
use Prim.Native.Nat.{ℕ, zero, suc, ◌+◌, ◌-◌, ◌/◌, ◌%◌, ◌<◌}
use Rattle.rewriting.specs.Ends.{bit_at}
use Rattle.strings.proofs.Reading.{width_some}
use Rattle.strings.specs.Read.{width_of}
use Rattle.symbols.proofs.Scanning.{piece-size}
use Rattle.symbols.proofs.Shaping.{shaped-any}
use Rattle.symbols.specs.Pieces.{Shaped, ShapedHead, left_after, scan}
use Rattle.symbols.specs.Spell.{masked, spell}
use Rattle.symbols.specs.Symbol.{Symbol, begin, bytes_of, call, code, end, name, number, par, size, symbol_bytes, var}
use Rattle.theory.proofs.Lists.{never}
use Rattle.theory.specs.Expand.{nothing}
use Rattle.theory.specs.Term.{Everys, Term, Terms}
use Rattle.theory.specs.Tree.{◌▹◌, count, nth, ⟨⟩}
use Rattle.shifting.proofs.Shifting.{shift-one-size, shift-spell}
use Rattle.shifting.specs.Shift.{opened_by, shift, shift_one}

size-front : (g : Symbol) (gs : List Symbol) → size (g ∷ gs) ≡ width_of g + size gs
size-front g gs = length-append (symbol_bytes g) (bytes_of gs)

pub size-shift : (E : List ℕ) (b : ℕ) (gs : List Symbol) → size (shift E b gs) ≡ size gs
size-shift E b [] = refl
size-shift E b (g ∷ gs) =
    size-front (shift_one E b g) (shift (opened_by b E g) b gs)
    ∙ ap₂ (λ (x : ℕ) (y : ℕ). x + y) (shift-one-size E b g) (size-shift (opened_by b E g) b gs) ∙ sym (size-front g gs)

-- the run over a string passes one symbol like another of its width
run_on : (l c w : ℕ) {m k : ℕ} → m ≡ k → cond (eqb l 0 && eqb c 0) 0 (w + m) ≡ cond (eqb l 0 && eqb c 0) 0 (w + k)
run_on l c w e = ap (λ (z : ℕ). cond (eqb l 0 && eqb c 0) 0 (w + z)) e

module _ (σ : ℕ → ℕ) where
  scan-shift : (gs hs : List Symbol) (l c b : ℕ) (E : List ℕ) → scan σ l c (shift E b gs ++ hs) ≡ scan σ l c (gs ++ hs)
  scan-shift [] hs l c b E = refl
  scan-shift (par i ∷ gs) hs l c b E = run_on l c (size (par i ∷ [])) (scan-shift gs hs (left_after σ l (par i)) c b E)
  scan-shift (var j ∷ gs) hs l c b E = run_on l c (size (var j ∷ [])) (scan-shift gs hs (left_after σ l (var j)) c b E)
  scan-shift (name x k ∷ gs) hs l c b E = run_on l c (size (name x k ∷ [])) (scan-shift gs hs (left_after σ l (name x k)) c b E)
  scan-shift (code d ∷ gs) hs l c b E = run_on l c (size (code d ∷ [])) (scan-shift gs hs (left_after σ l (code d)) c b E)
  scan-shift (number v ∷ gs) hs l c b E = run_on l c (size (number v ∷ [])) (scan-shift gs hs (left_after σ l (number v)) c b E)
  scan-shift (call n ∷ gs) hs l c b E = run_on l c (size (call n ∷ [])) (scan-shift gs hs (left_after σ l (call n)) c b E)
  scan-shift (begin ∷ gs) hs l c b E = run_on l c (size (begin ∷ [])) (scan-shift gs hs l (suc c) b (b ∷ E))
  scan-shift (end ∷ gs) hs l c b E = run_on l c (size (end ∷ [])) (scan-shift gs hs l (c - 1) b (drop 1 E))

abbrev first_of : List Symbol → Symbol
first_of [] = end
first_of (g ∷ gs) = g

-- two first parts of one string that take the same bytes are the same
same_parts : (gs xs hs ys : List Symbol) → gs ++ xs ≡ hs ++ ys → size gs ≡ size hs → (gs ≡ hs) × (xs ≡ ys)
same_parts [] xs [] ys e s = (refl, e)
same_parts [] xs (h ∷ hs) ys e s = absurd (omega (arith, size-front h hs, (width_some h).0))
same_parts (g ∷ gs) xs [] ys e s = absurd (omega (arith, size-front g gs, (width_some g).0))
same_parts (g ∷ gs) xs (h ∷ hs) ys e s =
    let p : g ≡ h = ap first_of e in
    let w : width_of g ≡ width_of h = ap width_of p in
    let r = same_parts gs xs hs ys (ap (λ (l : List Symbol). drop 1 l) e) (omega (arith, size-front g gs, size-front h hs)) in
    (ap₂ (λ (z : Symbol) (l : List Symbol). z ∷ l) p r.0, r.1)

module _ (σ : ℕ → ℕ) (E : List ℕ) (b : ℕ) where
  same-piece : (t u : Term) (xs ys : List Symbol) → Shaped σ t → Shaped σ u → shift E b (spell σ t) ++ xs ≡ spell σ u ++ ys
      → (shift E b (spell σ t) ≡ spell σ u) × (xs ≡ ys)
  same-piece t u xs ys w v e =
      same_parts (shift E b (spell σ t)) xs (spell σ u) ys e
      (size-shift E b (spell σ t) ∙ sym (piece-size σ t xs w) ∙ sym (scan-shift σ (spell σ t) xs 1 0 b E) ∙ ap (scan σ 1 0) e ∙ piece-size σ u ys v)

  -- Each argument is the other's, shifted, and what follows them is the same.
  abbrev pub SameArguments : ℕ → Terms → Terms → List Symbol → List Symbol → Type 0
  SameArguments h us vs xs ys =
      ((i : ℕ) → i < count us → bit_at i h ≡ true → shift E b (spell σ (nth nothing us i)) ≡ spell σ (nth nothing vs i)) × (xs ≡ ys)

  same_more : (t u : Term) (us vs : Terms) (h : ℕ) (xs ys : List Symbol) → (bit_at 0 h ≡ true → shift E b (spell σ t) ≡ spell σ u)
      → SameArguments (h / 2) us vs xs ys → SameArguments h (t ▹ us) (u ▹ vs) xs ys
  same_more t u us vs h xs ys first more = (each, more.1)
    where
      each : (i : ℕ) → i < suc (count us) → bit_at i h ≡ true → shift E b (spell σ (nth nothing (t ▹ us) i)) ≡ spell σ (nth nothing (u ▹ vs) i)
      each zero l c = first c
      each (suc i) l c = more.0 i (omega arith) c

  pub same-arguments : (us vs : Terms) (h d e : ℕ) (s r : ℕ → ℕ) (xs ys : List Symbol) → count us ≡ count vs → Everys (ShapedHead σ) d s us
      → Everys (ShapedHead σ) e r vs → shift E b (masked σ h us) ++ xs ≡ masked σ h vs ++ ys → SameArguments h us vs xs ys
  same-arguments ⟨⟩ ⟨⟩ h d e s r xs ys n w v q = (λ i l. absurd (omega arith), q)
  same-arguments ⟨⟩ (u ▹ vs) h d e s r xs ys n w v q = absurd (omega arith)
  same-arguments (t ▹ us) ⟨⟩ h d e s r xs ys n w v q = absurd (omega arith)
  same-arguments (t ▹ us) (u ▹ vs) h d e s r xs ys n w v q =
      go (eqb (h % 2) 1) refl q
      (λ p. same-arguments us vs (h / 2) d e (λ i. s (suc i)) (λ i. r (suc i)) xs ys (omega arith) w.1 v.1 p)
    where
      go : (bit : Bool) → eqb (h % 2) 1 ≡ bit
          → shift E b (cond bit (spell σ t) [] ++ masked σ (h / 2) us) ++ xs ≡ (cond bit (spell σ u) [] ++ masked σ (h / 2) vs) ++ ys
          → (shift E b (masked σ (h / 2) us) ++ xs ≡ masked σ (h / 2) vs ++ ys → SameArguments (h / 2) us vs xs ys)
          → SameArguments h (t ▹ us) (u ▹ vs) xs ys
      go true c p more =
          let ms : List Symbol = shift E b (masked σ (h / 2) us) in
          let left : shift E b (spell σ t ++ masked σ (h / 2) us) ++ xs ≡ shift E b (spell σ t) ++ (ms ++ xs) =
          ap (λ (l : List Symbol). l ++ xs) (shift-spell σ E b t (masked σ (h / 2) us)) ∙ append_assoc (shift E b (spell σ t)) ms xs in
          let z =
          same-piece t u (ms ++ xs) (masked σ (h / 2) vs ++ ys) (shaped-any σ t (s 0 + d) 0 w.0) (shaped-any σ u (r 0 + e) 0 v.0)
          (sym left ∙ p ∙ append_assoc (spell σ u) (masked σ (h / 2) vs) ys) in
          same_more t u us vs h xs ys (λ _. z.0) (more z.1)
      go false c p more = same_more t u us vs h xs ys (λ g. never (sym g ∙ c)) (more p)
