-- Bytes put one after another.
use mathlib.Core.List.{List, [], ◌∷◌, ◌++◌}
use mathlib.Core.Path.{◌≡◌, ◌∙◌, ap, refl, sym}
use Prim.Native.Nat.{ℕ, suc, ◌+◌, ◌<◌, ◌≤◌, ◌/◌, ◌%◌, min}
use native.Mathlib.Decide.{dec_le}
use native.Mathlib.Omega.{arith}
use lib.ListN.{length, set, length-append, length-set}
use lib.Seq.{set_out}
use Rattle.symbols.specs.Symbol.{bytes_of, call, name, par}
use Rattle.spelling.specs.Put.{Put, paste}

pub length-paste : (out : List ℕ) (q : ℕ) (bs : List ℕ) → length (paste out q bs) ≡ length out
unfolding paste
length-paste out q [] = refl
length-paste out q (b ∷ bs) = length-paste (set out q (b % 256)) (suc q) bs ∙ length-set out q (b % 256)

-- past the end nothing changes
pub paste-past : (out : List ℕ) (q : ℕ) (bs : List ℕ) → length out ≤ q → paste out q bs ≡ out
unfolding paste
paste-past out q [] h = refl
paste-past out q (b ∷ bs) h = rw (set_out out q (b % 256) h) (paste-past out (suc q) bs (omega arith))

pub paste-append : (out : List ℕ) (q : ℕ) (xs bs : List ℕ) → paste out q (xs ++ bs) ≡ paste (paste out q xs) (q + length xs) bs
unfolding paste
paste-append out q [] bs = ap (λ (k : ℕ). paste out k bs) (omega arith)
paste-append out q (a ∷ xs) bs =
    paste-append (set out q (a % 256)) (suc q) xs bs
    ∙ ap (λ (k : ℕ). paste (paste (set out q (a % 256)) (suc q) xs) k bs) (omega arith)

-- positions past the end are all one
paste-clipped : (out : List ℕ) (p q : ℕ) (bs : List ℕ) → min p (suc (length out)) ≡ min q (suc (length out)) → paste out p bs ≡ paste out q bs
paste-clipped out p q bs e = go (dec_le p (length out))
  where
    go : Dec (p ≤ length out) → paste out p bs ≡ paste out q bs
    go (yes h) = ap (λ (k : ℕ). paste out k bs) (omega arith)
    go (no h) = paste-past out p bs (omega arith) ∙ sym (paste-past out q bs (omega arith))

pub put-none : (out : List ℕ) (q : ℕ) → Put out q [] out q
unfolding paste
put-none out q = record { same = refl; next = ap (λ (k : ℕ). min k (suc (length out))) (omega arith) }

pub put-append : (out : List ℕ) (q : ℕ) (xs : List ℕ) (out₁ : List ℕ) (q₁ : ℕ) (bs out₂ : List ℕ) (q₂ : ℕ) → Put out q xs out₁ q₁ → Put out₁ q₁ bs out₂ q₂
    → Put out q (xs ++ bs) out₂ q₂
put-append out q xs out₁ q₁ bs out₂ q₂ f g =
    let l : length out₁ ≡ length out = ap length f.same ∙ length-paste out q xs in
    let n : length (xs ++ bs) ≡ length xs + length bs = length-append xs bs in
    record {
      same =
          g.same ∙ ap (λ (o : List ℕ). paste o q₁ bs) f.same
          ∙ paste-clipped (paste out q xs) q₁ (q + length xs) bs (rw (length-paste out q xs) f.next)
          ∙ sym (paste-append out q xs bs);
      next = let h = g.next in let k = f.next in omega arith;
    }

-- where there was no room, nothing is put after
pub put-past : (out : List ℕ) (bs out' : List ℕ) (q' : ℕ) → Put out (suc (length out)) bs out' q' → out' ≡ out
put-past out bs out' q' p = p.same ∙ paste-past out (suc (length out)) bs (omega arith)

-- one byte, where there is room and where there is none
pub put-in : (out : List ℕ) (q b : ℕ) → b < 256 → Put out q (b ∷ []) (set out q b) (q + 1)
unfolding paste
put-in out q b h =
    let m : b % 256 ≡ b = omega arith in
    record { same = rw m; next = refl }

pub put-out : (out : List ℕ) (q b : ℕ) → length out ≤ q → Put out q (b ∷ []) out (length out + 1)
unfolding paste
put-out out q b h = record { same = sym (set_out out q (b % 256) h); next = omega arith }

-- two after another, and one and two
pub put_two : (out : List ℕ) (q a : ℕ) (out₁ : List ℕ) (q₁ b : ℕ) (out₂ : List ℕ) (q₂ : ℕ) → Put out q (a ∷ []) out₁ q₁ → Put out₁ q₁ (b ∷ []) out₂ q₂
    → Put out q (a ∷ b ∷ []) out₂ q₂
put_two out q a out₁ q₁ b out₂ q₂ f g = put-append out q (a ∷ []) out₁ q₁ (b ∷ []) out₂ q₂ f g

pub put_three : (out : List ℕ) (q a : ℕ) (out₁ : List ℕ) (q₁ b c : ℕ) (out₂ : List ℕ) (q₂ : ℕ) → Put out q (a ∷ []) out₁ q₁ → Put out₁ q₁ (b ∷ c ∷ []) out₂ q₂
    → Put out q (a ∷ b ∷ c ∷ []) out₂ q₂
put_three out q a out₁ q₁ b c out₂ q₂ f g = put-append out q (a ∷ []) out₁ q₁ (b ∷ c ∷ []) out₂ q₂ f g

pub put_four : (out : List ℕ) (q a b c : ℕ) (out₁ : List ℕ) (q₁ d : ℕ) (out₂ : List ℕ) (q₂ : ℕ) → Put out q (a ∷ b ∷ c ∷ []) out₁ q₁ → Put out₁ q₁ (d ∷ []) out₂ q₂
    → Put out q (a ∷ b ∷ c ∷ d ∷ []) out₂ q₂
put_four out q a b c out₁ q₁ d out₂ q₂ f g = put-append out q (a ∷ b ∷ c ∷ []) out₁ q₁ (d ∷ []) out₂ q₂ f g

pub put-named : (out : List ℕ) (q x k : ℕ) (out₁ : List ℕ) (q₁ : ℕ) (out₂ : List ℕ) (q₂ : ℕ) → Put out q (2 ∷ x / 256 ∷ x % 256 ∷ []) out₁ q₁
    → Put out₁ q₁ (k ∷ []) out₂ q₂ → Put out q (bytes_of (name x k ∷ [])) out₂ q₂
put-named out q x k out₁ q₁ out₂ q₂ f g = put_four out q 2 (x / 256) (x % 256) out₁ q₁ k out₂ q₂ f g

-- numbers that are the same to 256
pub put_low : (out : List ℕ) (q a b x y : ℕ) (out₁ : List ℕ) (q₁ : ℕ) → Put out q (a ∷ b ∷ []) out₁ q₁ → a ≡ x % 256 → b ≡ y % 256
    → Put out q (x ∷ y ∷ []) out₁ q₁
unfolding paste
put_low out q a b x y out₁ q₁ p e f =
    let m : a % 256 ≡ x % 256 = rw e (omega arith) in
    let n : b % 256 ≡ y % 256 = rw f (omega arith) in
    record { same = p.same ∙ rw (m, n); next = p.next }

pub put-par : (out : List ℕ) (q i b : ℕ) (out₁ : List ℕ) (q₁ : ℕ) → b ≡ i % 256 → Put out q (0 ∷ b ∷ []) out₁ q₁ → Put out q (bytes_of (par i ∷ [])) out₁ q₁
put-par out q i b out₁ q₁ e p = put_low out q 0 b 0 i out₁ q₁ p refl e

pub put-call : (out : List ℕ) (q n a b : ℕ) (out₁ : List ℕ) (q₁ : ℕ) → a ≡ (6 + n / 256) % 256 → b ≡ n % 256 → Put out q (a ∷ b ∷ []) out₁ q₁
    → Put out q (bytes_of (call n ∷ [])) out₁ q₁
put-call out q n a b out₁ q₁ e f p = put_low out q a b (6 + n / 256) (n % 256) out₁ q₁ p e (f ∙ omega arith)
