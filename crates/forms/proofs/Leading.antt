-- Parameters one after another.
use mathlib.Core.Path.{◌≡◌, refl, sym, ap, ◌∙◌}
use mathlib.Core.List.{List, [], ◌∷◌, ◌++◌}
use Prim.Native.Nat.{ℕ, zero, suc, ◌+◌, ◌/◌, ◌%◌, ◌^◌, ◌≤◌, ◌<◌}
use native.Mathlib.Nat.{add-zero, add-suc, suc-add, div-div-eq-div-mul, pow-suc, pow-succ'}
use native.Mathlib.Numerals.{add-one}
use native.Mathlib.Omega.{arith}
use lib.Bits.{bit_or, or_zero_r}
use lib.ListN.{get_or, length}
use Rattle.theory.specs.Lists.{param_levels}
use Rattle.forms.specs.Labels.{Digit, after, coded, under}
use Rattle.forms.specs.Forms.{GivesBits, Leads, bits_at, gives}
use Rattle.forms.proofs.Laws.{after-digit, or_assoc, under-after, under-or, under-zero}

pub gives-append : (w : ℕ) (xs ys : List ℕ) → gives w (xs ++ ys) ≡ bit_or (gives w xs) (gives (w / 8 ^ length xs) ys)
gives-append w [] ys = let e : w ≡ w / 1 = omega arith in ap (λ (x : ℕ). gives x ys) e
gives-append w (x ∷ xs) ys =
    ap (bit_or (under w (coded x))) (gives-append (w / 8) xs ys)
    ∙ sym (or_assoc (under w (coded x)) (gives (w / 8) xs) (gives (w / 8 / 8 ^ length xs) ys))
    ∙ ap (λ (y : ℕ). bit_or (bit_or (under w (coded x)) (gives (w / 8) xs)) (gives y ys)) (div-div-eq-div-mul w 8 (8 ^ length xs) ∙ ap (λ (y : ℕ). w / y) (sym (pow-succ' 8 (length xs))))

pub params-length : (i k : ℕ) (v : List ℕ) → length (param_levels i k v) ≡ k
params-length i zero v = refl
params-length i (suc k) v = ap suc (params-length (suc i) k v)

one_more : (i k : ℕ) (v : List ℕ) → param_levels i (suc k) v ≡ param_levels i k v ++ (get_or v (i + k) 0 ∷ [])
one_more i zero v = ap (λ (j : ℕ). get_or v j 0 ∷ []) (sym (add-zero i))
one_more i (suc k) v =
    ap (◌∷◌ (get_or v i 0)) (one_more (suc i) k v ∙ ap (λ (j : ℕ). param_levels (suc i) k v ++ (get_or v j 0 ∷ [])) (suc-add i k ∙ sym (add-suc i k)))

-- the first i are added
pub record Leading (f l labels a k form left i : ℕ) : Type 0 where
  pub up_to : i ≤ k
  pub rest : left ≡ labels / 8 ^ i
  pub same : GivesBits form (λ v. bit_or (bits_at f v) (under l (gives labels (param_levels a i v))))

pub leading-start : (f l labels a k : ℕ) → Leading f l labels a k f labels 0
leading-start f l labels a k = record {
  up_to = omega arith;
  rest = let e : labels ≡ labels / 1 = omega arith in e;
  same = record { at = λ v h _. sym (ap (bit_or (bits_at f v)) (under-zero l) ∙ or_zero_r (bits_at f v)) };
}

module _ (f l labels a k form left i : ℕ) (inv : Leading f l labels a k form left i) where
  turned : (v : List ℕ) (m : ℕ) → m ≡ after l left
      → bit_or (bit_or (bits_at f v) (under l (gives labels (param_levels a i v)))) (under m (coded (get_or v (a + i) 0)))
      ≡ bit_or (bits_at f v) (under l (gives labels (param_levels a (i + 1) v)))
  turned v m e =
      let x = get_or v (a + i) 0 in
      or_assoc (bits_at f v) (under l (gives labels (param_levels a i v))) (under m (coded (get_or v (a + i) 0)))
      ∙ ap (bit_or (bits_at f v)) (
      ap (bit_or (under l (gives labels (param_levels a i v))))
      (ap (λ (y : ℕ). under y (coded x)) e ∙ sym (under-after l left (coded x)) ∙ ap (under l) (sym (or_zero_r (under left (coded x)))))
      ∙ sym (under-or l (gives labels (param_levels a i v)) (gives left (x ∷ [])))
      ∙ ap (under l) (ap (λ (y : ℕ). bit_or (gives labels (param_levels a i v)) (gives y (x ∷ []))) (inv.rest ∙ ap (λ (n : ℕ). labels / 8 ^ n) (sym (params-length a i v)))
      ∙ sym (gives-append labels (param_levels a i v) (x ∷ [])) ∙ ap (gives labels) (row v))
      )
    where
      row : (v : List ℕ) → param_levels a i v ++ (get_or v (a + i) 0 ∷ []) ≡ param_levels a (i + 1) v
      row v = sym (one_more a i v) ∙ ap (λ (n : ℕ). param_levels a n v) (sym (add-one i))

  pub leading-turn : (d m more : ℕ) → i < k → d ≡ left % 8 → Digit (after l d) m → GivesBits more (λ v. bit_or (bits_at form v) (under m (coded (get_or v (a + i) 0))))
      → Leading f l labels a k more (left / 8) (i + 1)
  leading-turn d m more h ed em g = record {
    up_to = omega arith;
    rest = ap (λ (x : ℕ). x / 8) inv.rest ∙ div-div-eq-div-mul labels (8 ^ i) 8 ∙ ap (λ (x : ℕ). labels / x) (sym (ap (λ (n : ℕ). 8 ^ n) (add-one i) ∙ pow-suc 8 i));
    same = record {
      at = λ v s low. g.at v s low ∙ ap (λ (x : ℕ). bit_or x (under m (coded (get_or v (a + i) 0)))) (inv.same.at v s low)
          ∙ turned v m (em.same ∙ ap (after l) ed ∙ after-digit l left);
    };
  }

  pub leading_end : k ≤ i → Leads f l labels a k (record { form = form; labels = left })
  leading_end h =
      let e : i ≡ k = omega (arith, inv.up_to) in
      record {
        form = record { at = λ v s low. inv.same.at v s low ∙ ap (λ (n : ℕ). bit_or (bits_at f v) (under l (gives labels (param_levels a n v)))) e };
        labels = inv.rest ∙ ap (λ (n : ℕ). labels / 8 ^ n) e;
      }
