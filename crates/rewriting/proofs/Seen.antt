-- The parameters that occur in a string: a call replaced by its text, arguments put in, changes none of them, nor whether the string is one
-- parameter alone.
use mathlib.Core.Bool.{Bool, ◌||◌, cond, false, true}
use mathlib.Core.List.{List, [], ◌++◌, ◌∷◌}
use mathlib.Core.Path.{◌∙◌, ◌≡◌, ap, refl, sym}
use borrow.Author.Tests.{eq-eqb, eqb-true}
use lib.Dec.{eqb}
use lib.ListN.{get_or}
use native.Mathlib.Nat.{add-zero}
use native.Mathlib.Omega.{arith}
use Prim.Native.Nat.{ℕ, zero, suc, ◌+◌, ◌*◌, ◌/◌, ◌%◌, ◌<◌}
use Rattle.strings.proofs.Turns.{not-sole}
use Rattle.strings.specs.Read.{sole_of}
use Rattle.symbols.proofs.Sizes.{any_append, any_left, any-right}
use Rattle.symbols.specs.Spell.{masked, max_params, occurring, shape_of, spell}
use Rattle.symbols.specs.Symbol.{Symbol, after, begin, call, code, end, fill, fill_one, is_par, move, move_one, name, number, par, sees, var}
use Rattle.theory.proofs.Lists.{never}
use Rattle.theory.specs.Expand.{nothing}
use Rattle.theory.specs.Term.{Terms}
use Rattle.theory.specs.Tree.{◌▹◌, count, nth, ⟨⟩}
use Rattle.rewriting.proofs.Bits.{Begins, any_none, half, masked-calls, no-bit}
use Rattle.rewriting.specs.Ends.{bit_at}

move-one-par : (i b c : ℕ) (g : Symbol) → is_par i (move_one b c g) ≡ is_par i g
move-one-par i b c (par j) = refl
move-one-par i b c (var j) = refl
move-one-par i b c (name x k) = refl
move-one-par i b c (code k) = refl
move-one-par i b c (number v) = refl
move-one-par i b c (call n) = refl
move-one-par i b c begin = refl
move-one-par i b c end = refl

move-sees : (i b c : ℕ) (gs : List Symbol) → sees i (move b c gs) ≡ sees i gs
move-sees i b c [] = refl
move-sees i b c (g ∷ gs) = rw (move-one-par i b c g, move-sees i b (after c g) gs)

par-is : (j : ℕ) (g : Symbol) → is_par j g ≡ true → g ≡ par j
par-is j (par i) e = ap (λ (k : ℕ). par k) (sym (eqb-true j i e))
par-is j (var k) e = never (sym e)
par-is j (name x k) e = never (sym e)
par-is j (code c) e = never (sym e)
par-is j (number v) e = never (sym e)
par-is j (call n) e = never (sym e)
par-is j begin e = never (sym e)
par-is j end e = never (sym e)

-- what occurs in an argument that occurs
module _ (i : ℕ) (args : List (List Symbol)) where
  one-unseen : (c : ℕ) (g : Symbol) → ((j : ℕ) → is_par j g ≡ true → sees i (get_or args j []) ≡ false) → sees i (fill_one args c g) ≡ false
  one-unseen c (par j) h = move-sees i c 0 (get_or args j []) ∙ h j (eq-eqb j j refl)
  one-unseen c (var j) h = refl
  one-unseen c (name x k) h = refl
  one-unseen c (code k) h = refl
  one-unseen c (number v) h = refl
  one-unseen c (call n) h = refl
  one-unseen c begin h = refl
  one-unseen c end h = refl

  pub fill-unseen : (gs : List Symbol) (c : ℕ) → ((j : ℕ) → sees j gs ≡ true → sees i (get_or args j []) ≡ false) → sees i (fill args c gs) ≡ false
  fill-unseen [] c h = refl
  fill-unseen (g ∷ gs) c h =
      any_none (is_par i) (fill_one args c g) (fill args (after c g) gs) (one-unseen c g (λ j e. h j (ap (λ (b : Bool). b || sees j gs) e)))
      (fill-unseen gs (after c g) (λ j e. h j (any-right (is_par j) (g ∷ []) gs e)))

  pub fill-sees : (j : ℕ) → sees i (get_or args j []) ≡ true → (gs : List Symbol) (c : ℕ) → sees j gs ≡ true → sees i (fill args c gs) ≡ true
  fill-sees j a [] c e = never (sym e)
  fill-sees j a (g ∷ gs) c e = go (is_par j g) refl e (λ s. fill-sees j a gs (after c g) s)
    where
      go : (b : Bool) → is_par j g ≡ b → (b || sees j gs) ≡ true → (sees j gs ≡ true → sees i (fill args (after c g) gs) ≡ true)
          → sees i (fill_one args c g ++ fill args (after c g) gs) ≡ true
      go true p q more =
          any_left (is_par i) (fill_one args c g) (fill args (after c g) gs)
          (ap (λ (z : Symbol). sees i (fill_one args c z)) (par-is j g p) ∙ move-sees i c 0 (get_or args j []) ∙ a)
      go false p q more = any-right (is_par i) (fill_one args c g) (fill args (after c g) gs) (more q)

-- a bit that is set is that of a parameter that occurs
pub occurring-seen : (n i j : ℕ) (gs : List Symbol) → bit_at j (occurring n i gs) ≡ true → sees (i + j) gs ≡ true
occurring-seen zero i j gs e = never (sym e ∙ no-bit j)
occurring-seen (suc n) i zero gs e = ap (λ (k : ℕ). sees k gs) (add-zero i) ∙ go (sees i gs) e
  where
    o : ℕ
    o = occurring n (suc i) gs

    go : (b : Bool) → eqb ((cond b 1 0 + 2 * o) % 2) 1 ≡ true → b ≡ true
    go true q = refl
    go false q = let even : (0 + 2 * o) % 2 ≡ 0 = omega arith in never (sym (rw even at q))
occurring-seen (suc n) i (suc j) gs e =
    let z : suc i + j ≡ i + suc j = omega arith in
    let q = rw (half (sees i gs) (occurring n (suc i) gs)) at e in
    ap (λ (k : ℕ). sees k gs) (sym z) ∙ occurring-seen n (suc i) j gs q

-- what occurs in the arguments after a call occurs in one of them
record Among (i : ℕ) (σ : ℕ → ℕ) (us : Terms) (h : ℕ) : Type 0 where
  at : ℕ
  few : at < count us
  bit : bit_at at h ≡ true
  seen : sees i (spell σ (nth nothing us at)) ≡ true

among : (i : ℕ) (σ : ℕ → ℕ) (us : Terms) (h : ℕ) → sees i (masked σ h us) ≡ true → Among i σ us h
among i σ ⟨⟩ h e = never (sym e)
among i σ (t ▹ ts) h e = go (eqb (h % 2) 1) refl (sees i (spell σ t)) refl e (λ s. among i σ ts (h / 2) s)
  where
    later : Among i σ ts (h / 2) → Among i σ (t ▹ ts) h
    later m = record { at = suc m.at; few = omega (arith, m.few); bit = m.bit; seen = m.seen }

    go : (b : Bool) → eqb (h % 2) 1 ≡ b → (s : Bool) → sees i (spell σ t) ≡ s → sees i (cond b (spell σ t) [] ++ masked σ (h / 2) ts) ≡ true
        → (sees i (masked σ (h / 2) ts) ≡ true → Among i σ ts (h / 2)) → Among i σ (t ▹ ts) h
    go true p true q r more = record { at = 0; few = omega arith; bit = p; seen = q }
    go true p false q r more =
        let z : (sees i (spell σ t) || sees i (masked σ (h / 2) ts)) ≡ true = sym (any_append (is_par i) (spell σ t) (masked σ (h / 2) ts)) ∙ r in
        later (more (rw q at z))
    go false p s q r more = later (more r)

-- the arguments filled into their text, and the arguments as they stood after the call
pub filled-sees : (σ : ℕ → ℕ) (us : Terms) (h : ℕ) (args : List (List Symbol)) (gs : List Symbol) → h ≡ occurring max_params 0 gs
    → ((j : ℕ) → sees j gs ≡ true → j < count us) → ((j : ℕ) → sees j gs ≡ true → bit_at j h ≡ true)
    → ((j : ℕ) → sees j gs ≡ true → get_or args j [] ≡ spell σ (nth nothing us j)) → (i : ℕ) → sees i (fill args 0 gs) ≡ sees i (masked σ h us)
filled-sees σ us h args gs e known bits given i = go (sees i (masked σ h us)) refl
  where
    go : (b : Bool) → sees i (masked σ h us) ≡ b → sees i (fill args 0 gs) ≡ b
    go true q =
        let m : Among i σ us h = among i σ us h q in
        let z : 0 + m.at ≡ m.at = omega arith in
        let s : sees m.at gs ≡ true = ap (λ (k : ℕ). sees k gs) (sym z) ∙ occurring-seen max_params 0 m.at gs (ap (bit_at m.at) (sym e) ∙ m.bit) in
        fill-sees i args m.at (ap (sees i) (given m.at s) ∙ m.seen) gs 0 s
    go false q = fill-unseen i args gs 0 (λ j s. ap (sees i) (given j s) ∙ masked-calls (is_par i) σ us h j (known j s) q (bits j s))

-- the string with the call, and the string with the text
pub replaced-sees : (i n : ℕ) (gs ms str ks : List Symbol) → sees i str ≡ sees i ms → sees i (gs ++ (str ++ ks)) ≡ sees i (gs ++ (call n ∷ (ms ++ ks)))
replaced-sees i n gs ms str ks e =
    any_append (is_par i) gs (str ++ ks)
    ∙ ap (λ (b : Bool). sees i gs || b)
    (any_append (is_par i) str ks ∙ ap (λ (b : Bool). b || sees i ks) e ∙ sym (any_append (is_par i) ms ks))
    ∙ sym (any_append (is_par i) gs (call n ∷ (ms ++ ks)))

occurring-same : (n i : ℕ) (gs hs : List Symbol) → ((j : ℕ) → sees j gs ≡ sees j hs) → occurring n i gs ≡ occurring n i hs
occurring-same zero i gs hs e = refl
occurring-same (suc n) i gs hs e = rw (e i, occurring-same n (suc i) gs hs e)

-- a string with another symbol than a parameter in it is no parameter alone
middle : (gs : List Symbol) (g : Symbol) (hs : List Symbol) → sole_of (g ∷ []) ≡ 0 → sole_of (gs ++ (g ∷ hs)) ≡ 0
middle [] (par i) hs e = absurd (omega arith)
middle [] (var j) hs e = refl
middle [] (name x k) hs e = refl
middle [] (code c) hs e = refl
middle [] (number v) hs e = refl
middle [] (call n) hs e = refl
middle [] begin hs e = refl
middle [] end hs e = refl
middle (par i ∷ []) g hs e = refl
middle (par i ∷ x ∷ gs) g hs e = refl
middle (var j ∷ gs) g hs e = refl
middle (name x k ∷ gs) g hs e = refl
middle (code c ∷ gs) g hs e = refl
middle (number v ∷ gs) g hs e = refl
middle (call n ∷ gs) g hs e = refl
middle (begin ∷ gs) g hs e = refl
middle (end ∷ gs) g hs e = refl

pub shape-kept : (n : ℕ) (gs ms str ks : List Symbol) → ((i : ℕ) → sees i str ≡ sees i ms) → Begins n str
    → shape_of (gs ++ (str ++ ks)) ≡ shape_of (gs ++ (call n ∷ (ms ++ ks)))
shape-kept n gs ms str ks e b =
    let w : str ++ ks ≡ b.first ∷ (b.more ++ ks) = ap (λ (z : List Symbol). z ++ ks) b.whole in
    let s : sole_of (gs ++ (str ++ ks)) ≡ 0 = ap (λ (z : List Symbol). sole_of (gs ++ z)) w ∙ middle gs b.first (b.more ++ ks) b.sole in
    not-sole (gs ++ (str ++ ks)) s
    ∙ occurring-same max_params 0 (gs ++ (str ++ ks)) (gs ++ (call n ∷ (ms ++ ks))) (λ i. replaced-sees i n gs ms str ks (e i))
    ∙ sym (not-sole (gs ++ (call n ∷ (ms ++ ks))) (middle gs (call n) (ms ++ ks) refl))
