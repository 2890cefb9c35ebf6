-- The bits of a card, one after the other; its masks.
use mathlib.Core.Bool.{Bool, false, true, ◌||◌}
use mathlib.Core.List.{List, [], ◌∷◌, ◌++◌, map}
use mathlib.Core.Path.{◌≡◌, refl, sym, ap, ap₂, ◌∙◌}
use Prim.Native.Nat.{ℕ, zero, suc, ◌%◌, ◌*◌, ◌+◌, ◌-◌, ◌/◌, ◌^◌, ◌<◌, ◌≤◌}
use native.Mathlib.Nat.{add_assoc, add-suc, add-zero, le_trans, pow-le-pow_right, pow-succ', suc-add, zero-add}
use native.Mathlib.Numerals.{add-one}
use native.Mathlib.Omega.{arith}
use lib.Bits.{bit_or, or_shifted_r}
use lib.Dec.{leb, leb→le}
use lib.ListN.{replicate, set}
use lib.Pow.{shl_exact}
use Rattle.limits.specs.Limits.{level_count, max_arity}
use Rattle.theory.specs.Card.{bit_if, bits_below, card_of, clashes, four_bytes, mask_of, pair_bit, pairs_below, pairs_with, raises, takes, weighs}
use Rattle.theory.specs.Lists.{any, numbers_from}
use Rattle.rows.proofs.Columns.{below_at}
use Rattle.forms.proofs.Finite.{same}
use Rattle.forms.specs.Cards.{Paired, WithBit, laid_out}

-- ---- one bit

pub bit-set : (x k : ℕ) (b : Bool) → k < 32 → x < 2 ^ k → b ≡ true → WithBit x k b (bit_or x ((1 * 2 ^ k) % 2 ^ 32))
bit-set x k b h low e = rw e (rw (shl_exact {a = 1} 1 k 32 (omega arith) (omega arith), or_shifted_r 1 k x low) record {
  same = omega arith;
  low = rw (pow-succ' 2 k) (omega arith);
})

pub bit-free : (x k : ℕ) (b : Bool) → x < 2 ^ k → b ≡ false → WithBit x k b x
bit-free x k b low e = rw e record { same = sym (add-zero x); low = rw (pow-succ' 2 k) (omega arith) }

-- ---- the mask of parameter i

pub record Masking (level : List ℕ → ℕ) (i mask l : ℕ) : Type 0 where
  pub up_to : l ≤ level_count
  pub low : mask < 2 ^ l
  pub same : (n : ℕ) → i < n → mask ≡ bits_below l (takes n level i)

pub mask_start : (f : List ℕ → ℕ) (i : ℕ) → Masking f i 0 0
mask_start f i = record { up_to = omega arith; low = omega arith; same = λ n h. refl }

module _ (f : List ℕ → ℕ) (i mask l : ℕ) (inv : Masking f i mask l) where
  pub mask-turn : (b : Bool) (r : ℕ) → l < level_count → ((n : ℕ) → i < n → b ≡ takes n f i l) → WithBit mask l b r → Masking f i r (l + 1)
  mask-turn b r h e w = record {
    up_to = omega arith;
    low = rw (add-one l) w.low;
    same = λ n k. rw (add-one l) (w.same ∙ ap₂ ◌+◌ (inv.same n k) (ap (λ (b : Bool). bit_if b l) (e n k)));
  }

  all-levels : level_count ≤ l → l ≡ level_count
  all-levels h = omega (arith, inv.up_to)

  pub mask-byte : level_count ≤ l → mask < 256
  mask-byte h = let e : mask < 2 ^ level_count = rw (all-levels h) at inv.low in omega arith

  pub mask_end : level_count ≤ l → (n : ℕ) → i < n → mask ≡ mask_of n f i
  mask_end h n k = rw (all-levels h) at (inv.same n k)

-- ---- whether parameter i weighs: what is left to try decides

pub record Weighing (level : List ℕ → ℕ) (i l : ℕ) : Type 0 where
  pub up_to : l ≤ level_count
  pub same : (n : ℕ) → i < n → any (raises n level i) (numbers_from l (level_count - l)) ≡ weighs n level i

pub weigh-start : (f : List ℕ → ℕ) (i : ℕ) → Weighing f i 0
weigh-start f i = record { up_to = omega arith; same = λ n h. refl }

module _ (f : List ℕ → ℕ) (i l : ℕ) (inv : Weighing f i l) where
  here : l < level_count → (n : ℕ) → i < n → raises n f i l || any (raises n f i) (numbers_from (suc l) (level_count - suc l)) ≡ weighs n f i
  here h n k =
      let e : level_count - l ≡ suc (level_count - suc l) = omega arith in
      rw e at (inv.same n k)

  pub weigh-found : (b : Bool) → l < level_count → ((n : ℕ) → i < n → b ≡ raises n f i l) → b ≡ true → (n : ℕ) → i < n → true ≡ weighs n f i
  weigh-found b h e t n k = rw (sym (sym t ∙ e n k)) at (here h n k)

  pub weigh-turn : (b : Bool) → l < level_count → ((n : ℕ) → i < n → b ≡ raises n f i l) → b ≡ false → Weighing f i (l + 1)
  weigh-turn b h e t = record { up_to = omega arith; same = λ n k. rw (add-one l) (rw (sym (sym t ∙ e n k)) at (here h n k)) }

  pub weigh-end : level_count ≤ l → (n : ℕ) → i < n → false ≡ weighs n f i
  weigh-end h n k = let e : level_count - l ≡ 0 = omega arith in rw e at (inv.same n k)

-- ---- the pair bits of parameter j

-- "j(j − 1)/2 + i" at the eight parameters
pub product-low : (j : ℕ) → j < max_arity → j * (j - 1) ≤ 42
product-low j h = leb→le (j * (j - 1)) 42 (below_at (λ j. leb (j * (j - 1)) 42) max_arity j tt h)

after_last : (j : ℕ) → j < max_arity → pair_bit j j ≡ pair_bit 0 (suc j)
after_last j h = same max_arity (λ j. pair_bit j j) (λ j. pair_bit 0 (suc j)) tt j h

pub record Pairing (level : List ℕ → ℕ) (j x pairs i : ℕ) : Type 0 where
  pub up_to : i ≤ j
  pub low : pairs < 2 ^ pair_bit i j
  pub same : (n : ℕ) → j < n → pairs ≡ x + pairs_with n level j i

pub pair-start : (f : List ℕ → ℕ) (j x : ℕ) → x < 2 ^ pair_bit 0 j → Pairing f j x x 0
pair-start f j x h = record { up_to = omega arith; low = h; same = λ n k. sym (add-zero x) }

module _ (f : List ℕ → ℕ) (j x pairs i : ℕ) (inv : Pairing f j x pairs i) where
  pub pair-room : (k : ℕ) → k ≡ pair_bit i j → pairs < 2 ^ k
  pair-room k e = rw e inv.low

  pub pair_turn : (b : Bool) (k r : ℕ) → i < j → ((n : ℕ) → j < n → b ≡ clashes n f i j) → k ≡ pair_bit i j → WithBit pairs k b r → Pairing f j x r (i + 1)
  pair_turn b k r h e q w = record {
    up_to = omega arith;
    low = rw (add-one i, add-suc (j * (j - 1) / 2) i) (rw q at w.low);
    same = λ n g. rw (add-one i) (w.same ∙ ap₂ ◌+◌ (inv.same n g) (ap₂ bit_if (e n g) q) ∙ add_assoc x (pairs_with n f j i) (bit_if (clashes n f i j) (pair_bit i j)));
  }

  pub pair_end : j < max_arity → j ≤ i → Paired f j x pairs
  pair_end k h =
      let e : i ≡ j = omega (arith, inv.up_to) in
      record { low = rw (sym (after_last j k)) (rw e at inv.low); same = rw e at inv.same }

-- ---- the card

pub record Found (n : ℕ) (level : List ℕ → ℕ) (masks : List ℕ) (weights pairs i : ℕ) : Type 0 where
  pub up_to : i ≤ n
  pub masked : masks ≡ map (mask_of n level) (numbers_from 0 i) ++ replicate (max_arity - i) 0
  pub weighed : weights ≡ bits_below i (weighs n level)
  pub light : weights < 2 ^ i
  pub paired : pairs ≡ pairs_below n level i
  pub few : pairs < 2 ^ pair_bit 0 i

pub found-start : (n : ℕ) (f : List ℕ → ℕ) → Found n f (replicate max_arity 0) 0 0 0
found-start n f = record { up_to = omega arith; masked = refl; weighed = refl; light = omega arith; paired = refl; few = omega arith }

set_next : (f : ℕ → ℕ) (i m k x : ℕ) → x ≡ f (i + m) → set (map f (numbers_from i m) ++ replicate (suc k) 0) m x ≡ map f (numbers_from i (suc m)) ++ replicate k 0
set_next f i zero k x e = ap (λ (y : ℕ). y ∷ replicate k 0) (e ∙ ap f (add-zero i))
set_next f i (suc m) k x e = ap (λ (l : List ℕ). f i ∷ l) (set_next f (suc i) m k x (e ∙ ap f (add-suc i m ∙ sym (suc-add i m))))

module _ (n : ℕ) (f : List ℕ → ℕ) (masks : List ℕ) (weights pairs i : ℕ) (inv : Found n f masks weights pairs i) (fits : n ≤ max_arity) where
  pub found_turn : (m : ℕ) (b : Bool) (u p : ℕ) → i < n → ((n : ℕ) → i < n → m ≡ mask_of n f i) → ((n : ℕ) → i < n → b ≡ weighs n f i) → WithBit weights i b u → Paired f i pairs p
      → Found n f (set masks i m) u p (i + 1)
  found_turn m b u p h em eb w q =
      let e : max_arity - i ≡ suc (max_arity - suc i) = omega arith in
      rw (add-one i) record {
        up_to = h;
        masked = ap (λ (l : List ℕ). set l i m) (inv.masked ∙ ap (λ (k : ℕ). map (mask_of n f) (numbers_from 0 i) ++ replicate k 0) e)
            ∙ set_next (mask_of n f) 0 i (max_arity - suc i) m (em n h ∙ ap (mask_of n f) (sym (zero-add i)));
        weighed = w.same ∙ ap₂ ◌+◌ inv.weighed (ap (λ (b : Bool). bit_if b i) (eb n h));
        light = w.low;
        paired = q.same n h ∙ ap (λ (x : ℕ). x + pairs_with n f i i) inv.paired;
        few = q.low;
      }

  pub found-byte : weights < 256
  found-byte = le_trans inv.light (pow-le-pow_right {n = 2} (omega arith) {i = i} {j = 8} (omega (arith, inv.up_to)))

  pub found-end : (z : ℕ) → n ≤ i → z ≡ f (replicate n 0) → laid_out (record { params = n; base = z; weights = weights; masks = masks; pairs = pairs }) ≡ card_of n f
  unfolding card_of
  found-end z h ez =
      let e : i ≡ n = omega (arith, inv.up_to) in
      ap (λ (l : List ℕ). n ∷ l) (ap₂ ◌∷◌ ez (ap₂ ◌∷◌ (rw e at inv.weighed)
      (ap₂ (λ (ms : List ℕ) (x : ℕ). ms ++ (four_bytes x ++ (0 ∷ []))) (rw e at inv.masked) (rw e at inv.paired))))
