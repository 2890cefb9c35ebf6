-- Names and substitutions that stand one after another are those that the rules read.
-- Assumes nothing.
use mathlib.Core.Path.{◌≡◌, refl, sym, ap, ap₂, ◌∙◌, subst}
use mathlib.Core.Bool.{Bool, true, false, cond}
use mathlib.Core.List.{List, [], ◌∷◌, ◌++◌}
use mathlib.Core.Option.{Option, none, some}
use Prim.Native.Nat.{ℕ, zero, suc, ◌+◌, ◌*◌, ◌-◌, ◌≤◌, ◌<◌}
use native.Mathlib.Omega.{arith}
use lib.Dec.{ltb, eqb}
use lib.ListN.{length, drop, length-drop}
use lib.Seq.{drop-cons}
use borrow.Author.Tests.{ne_eqb, eqb-true, eqb-false, ltb-true, ltb-false}
use Rattle.theory.specs.Lists.{map_option}
use Rattle.rules.specs.Bytes.{Read, cut, got, when, read_some, ending, ◌>>=◌, Format, name, ◌▸◌, sized, is_empty, read_times, read_up_to, write_all}
use Rattle.rules.specs.Expression.{Expression, expression}
use Rattle.rules.specs.Field.{Substitution}
use Rattle.laws.proofs.Formats.{RoundTrip, pair-trip, name-trip, sized-trip}
use Rattle.laws.proofs.Expressions.{expression-trip}
use Rattle.tokens.specs.Token.{number_at}
use Rattle.tokens.specs.Expr.{whole_of}
use Rattle.tokens.proofs.Places.{cases}
use Rattle.tokens.proofs.Writing.{Bytes}
use Rattle.fields.specs.Payload.{all_named}
use Rattle.fields.specs.Substitution.{part, next_substitution, substitution_fits, substitutions_fit}
use Rattle.agree.specs.Parts.{names_at, SubstitutionsAt}
use Rattle.agree.proofs.Expressions.{whole-read, not-whole}
use Rattle.agree.proofs.Positions.{bytes-part, length_part, two-part, part-part, drop-none, name-good, name-bad, sized-good, sized-over, no_front}

-- a reading that leaves nothing
abbrev pub done : {A : Type 0} → Read A → Option A
done o = ending o λ a r. when (is_empty r) (some a)

pub empty-at : (p : List ℕ) (at : ℕ) → at ≤ length p → is_empty (drop at p) ≡ eqb at (length p)
empty-at p at l = go (eqb at (length p)) refl
  where
    go : (b : Bool) → eqb at (length p) ≡ b → is_empty (drop at p) ≡ b
    go true e = let q = eqb-true at (length p) e in rw (drop-none p at (sym q))
    go false e = let q = eqb-false at (length p) e in rw (drop-cons p at 0 (omega arith))

pub names-part : (s : List ℕ) (base n : ℕ) (k at : ℕ) → at + 2 * k ≤ n → names_at (part s base n) at k ≡ names_at s (base + at) k
names-part s base n zero at h = refl
names-part s base n (suc k) at h =
    let j : base + (at + 2) ≡ base + at + 2 = omega arith in
    ap₂ (λ (x : ℕ) (l : List ℕ). x ∷ l) (two-part s base n at (omega arith))
    (names-part s base n k (at + 2) (omega arith) ∙ ap (λ (i : ℕ). names_at s i k) j)

pub names-read : (k f : ℕ) (p : List ℕ) (at : ℕ) → Bytes p → length p ≡ at + 2 * k → k ≤ f
    → read_up_to name f (drop at p) ≡ when (all_named k p at) (some (names_at p at k))
unfolding all_named
names-read zero zero p at h e l = rw (drop-none p at (omega arith))
names-read zero (suc f) p at h e l = rw (drop-none p at (omega arith))
names-read (suc k) zero p at h e l = absurd (omega arith)
names-read (suc k) (suc f) p at h e l =
    let m : is_empty (drop at p) ≡ false = empty-at p at (omega arith) ∙ ne_eqb at (length p) (λ (z : at ≡ length p). omega arith) in
    let n = number_at p at in
    let rest = read_up_to name f (drop (at + 2) p) in
    let i : rest ≡ when (all_named k p (at + 2)) (some (names_at p (at + 2) k)) = names-read k f p (at + 2) h (omega arith) (omega arith) in
    let start : read_up_to name (suc f) (drop at p) ≡ ending (name.read (drop at p)) (λ a r. map_option (λ l. a ∷ l) (read_up_to name f r)) =
    ap (λ (b : Bool). cond b (some []) (ending (name.read (drop at p)) λ a r. map_option (λ l. a ∷ l) (read_up_to name f r))) m in
    start ∙ go (eqb n 0) refl (all_named k p (at + 2)) i
  where
    go : (b : Bool) → eqb (number_at p at) 0 ≡ b → (c : Bool) → read_up_to name f (drop (at + 2) p) ≡ when c (some (names_at p (at + 2) k))
        → ending (name.read (drop at p)) (λ a r. map_option (λ l. a ∷ l) (read_up_to name f r)) ≡ when (cond b false c) (some (names_at p at (suc k)))
    go true z c i = ap (λ (x : Read ℕ). ending x (λ a r. map_option (λ l. a ∷ l) (read_up_to name f r))) (name-bad p at h (omega arith) z)
    go false z true i =
        ap (λ (x : Read ℕ). ending x (λ a r. map_option (λ l. a ∷ l) (read_up_to name f r))) (name-good p at h (omega arith) z)
        ∙ ap (map_option (λ (l : List ℕ). number_at p at ∷ l)) i
    go false z false i =
        ap (λ (x : Read ℕ). ending x (λ a r. map_option (λ l. a ∷ l) (read_up_to name f r))) (name-good p at h (omega arith) z)
        ∙ ap (map_option (λ (l : List ℕ). number_at p at ∷ l)) i

pub names-length : (l : List ℕ) → length (write_all name l) ≡ 2 * length l
names-length [] = refl
names-length (n ∷ l) = let i = names-length l in omega arith

-- one substitution
abbrev pub substitution : Format Substitution
substitution = name ▸ sized expression

pub substitution-trip : RoundTrip substitution
substitution-trip = pair-trip name-trip (sized-trip expression-trip)

abbrev One : List ℕ → ℕ → Bool → Type 0
One p at true =
    (e : Expression) × (expression.read (part p (at + 4) (number_at p (at + 2))) ≡ some e) × (next_substitution p at ≤ length p)
    × (substitution.read (drop at p) ≡ got (number_at p at, e) (drop (next_substitution p at) p))
One p at false = substitution.read (drop at p) ≡ cut

module _ (p : List ℕ) (at : ℕ) (h : Bytes p) where
  named : 4 ≤ length p - at → eqb (number_at p at) 0 ≡ false
      → substitution.read (drop at p) ≡ ((sized expression).read (drop (at + 2) p) >>= λ b s. got (number_at p at, b) s)
  named l z = ap (λ (x : Read ℕ). x >>= λ a r. (sized expression).read r >>= λ b s. got (a, b) s) (name-good p at h (omega arith) z)

  filling : 4 ≤ length p - at → eqb (number_at p at) 0 ≡ false → number_at p (at + 2) ≤ length p - (at + 4)
      → substitution.read (drop at p)
      ≡ (read_some (expression.read (part p (at + 4) (number_at p (at + 2)))) (λ a. got a (drop (next_substitution p at) p)) >>= λ b s. got (number_at p at, b) s)
  filling l z k =
      let j : at + 2 + 2 ≡ at + 4 = omega arith in
      named l z
      ∙ ap (λ (x : Read Expression). x >>= λ b s. got (number_at p at, b) s) (sized-good p (at + 2) h expression (omega arith) (rw j k))
      ∙ ap (λ (i : ℕ). read_some (expression.read (part p i (number_at p (at + 2)))) (λ a. got a (drop (i + number_at p (at + 2)) p)) >>= λ b s. got (number_at p at, b) s) j

  one : One p at (substitution_fits p at)
  unfolding substitution_fits
  one =
      let m = number_at p (at + 2) in
      cases (One p at) (ltb (length p - at) 4)
      (λ (l : ltb (length p - at) 4 ≡ true). no_front substitution-trip (drop at p) (λ a r f e. short a r (ltb-true (length p - at) 4 l) (ap length e)))
      (λ (l : ltb (length p - at) 4 ≡ false). let l4 : 4 ≤ length p - at = ltb-false (length p - at) 4 l in
      cases (One p at) (eqb (number_at p at) 0)
      (λ z. ap (λ (x : Read ℕ). x >>= λ a r. (sized expression).read r >>= λ b s. got (a, b) s) (name-bad p at h (omega arith) z))
      (λ z. cases (One p at) (ltb (length p - (at + 4)) m)
      (λ (k : ltb (length p - (at + 4)) m ≡ true). let k4 = ltb-true (length p - (at + 4)) m k in
      let j : at + 2 + 2 ≡ at + 4 = omega arith in
      named l4 z ∙ ap (λ (x : Read Expression). x >>= λ b s. got (number_at p at, b) s) (sized-over p (at + 2) h expression (omega arith) (rw j k4)))
      (λ (k : ltb (length p - (at + 4)) m ≡ false). last l4 z (ltb-false (length p - (at + 4)) m k) (whole_of (part p (at + 4) m)) refl)))
    where
      short : (a : Substitution) (r : List ℕ) → length p - at < 4 → length (substitution.write a ++ r) ≡ length (drop at p) → ⊥
      short a r l e = let d = length-drop at p in omega arith

      last : 4 ≤ length p - at → eqb (number_at p at) 0 ≡ false → number_at p (at + 2) ≤ length p - (at + 4) → (b : Bool) → whole_of (part p (at + 4) (number_at p (at + 2))) ≡ b → One p at b
      last l z k true w =
          let q = whole-read (part p (at + 4) (number_at p (at + 2))) (bytes-part p (at + 4) (number_at p (at + 2)) h) w in (
            q.0,
            q.1,
            omega arith,
            filling l z k
                ∙ ap (λ (x : Option Expression). read_some x (λ a. got a (drop (next_substitution p at) p)) >>= λ b s. got (number_at p at, b) s) q.1,
          )
      last l z k false w =
          let q = not-whole (part p (at + 4) (number_at p (at + 2))) (bytes-part p (at + 4) (number_at p (at + 2)) h) w in
          filling l z k
          ∙ ap (λ (x : Option Expression). read_some x (λ a. got a (drop (next_substitution p at) p)) >>= λ b s. got (number_at p at, b) s) q

abbrev pub AllRead : List ℕ → ℕ → ℕ → Read (List Substitution) → Bool → Type 0
AllRead p at k o true = (ss : List Substitution) × (length ss ≡ k) × SubstitutionsAt p at (length p) ss × (done o ≡ some ss)
AllRead p at k o false = done o ≡ none

done-cons : (x : Substitution) (o : Read (List Substitution)) → done (o >>= λ l s. got (x ∷ l) s) ≡ map_option (λ l. x ∷ l) (done o)
done-cons x cut = refl
done-cons x (got l r) = go (is_empty r)
  where
    go : (b : Bool) → when b (some (x ∷ l)) ≡ map_option (λ l. x ∷ l) (when b (some l))
    go true = refl
    go false = refl

pub substitutions : (k : ℕ) (p : List ℕ) (at : ℕ) → Bytes p → at ≤ length p → AllRead p at k (read_times substitution k (drop at p)) (substitutions_fit k p at)
unfolding substitutions_fit
substitutions zero p at h l = go (eqb at (length p)) refl (empty-at p at l)
  where
    go : (b : Bool) → eqb at (length p) ≡ b → is_empty (drop at p) ≡ eqb at (length p) → AllRead p at zero (got [] (drop at p)) b
    go true e q = ([], refl, eqb-true at (length p) e, ap (λ (b : Bool). when b (some [])) (q ∙ e))
    go false e q = ap (λ (b : Bool). when b (some [])) (q ∙ e)
substitutions (suc k) p at h l = go (substitution_fits p at) (one p at h) (λ i. substitutions k p (next_substitution p at) h i)
  where
    next : (e : Expression) → substitution.read (drop at p) ≡ got (number_at p at, e) (drop (next_substitution p at) p)
        → done (read_times substitution (suc k) (drop at p)) ≡ map_option (λ l. (number_at p at, e) ∷ l) (done (read_times substitution k (drop (next_substitution p at) p)))
    next e q =
        ap (λ (x : Read Substitution). done (x >>= λ a r. read_times substitution k r >>= λ l' s. got (a ∷ l') s)) q
        ∙ done-cons (number_at p at, e) (read_times substitution k (drop (next_substitution p at) p))

    rest : (b : Bool) → One p at true → AllRead p (next_substitution p at) k (read_times substitution k (drop (next_substitution p at) p)) b
        → AllRead p at (suc k) (read_times substitution (suc k) (drop at p)) b
    rest true o a = (
      (number_at p at, o.0) ∷ a.0,
      ap suc a.1,
      (refl, o.1, o.2, a.2),
      next o.0 o.3 ∙ ap (map_option (λ (l : List Substitution). (number_at p at, o.0) ∷ l)) a.3,
    )
    rest false o a = next o.0 o.3 ∙ ap (map_option (λ (l : List Substitution). (number_at p at, o.0) ∷ l)) a

    go : (b : Bool) → One p at b
        → (next_substitution p at ≤ length p → AllRead p (next_substitution p at) k (read_times substitution k (drop (next_substitution p at) p)) (substitutions_fit k p (next_substitution p at)))
        → AllRead p at (suc k) (read_times substitution (suc k) (drop at p)) (cond b (substitutions_fit k p (next_substitution p at)) false)
    go true o below = rest (substitutions_fit k p (next_substitution p at)) o (below o.2)
    go false o below = ap (λ (x : Read Substitution). done (x >>= λ a r. read_times substitution k r >>= λ l' s. got (a ∷ l') s)) o

-- from the payload to the file
pub substitutions-part : (s : List ℕ) (base n : ℕ) → base + n ≤ length s → (ss : List Substitution) (at : ℕ)
    → SubstitutionsAt (part s base n) at (length (part s base n)) ss → SubstitutionsAt s (base + at) (base + n) ss
substitutions-part s base n h [] at e = let l = length_part s base n h in omega arith
substitutions-part s base n h (x ∷ ss) at (e, q, k, r) =
    let p = part s base n in
    let l : length p ≡ n = length_part s base n h in
    let a : number_at p at ≡ number_at s (base + at) = two-part s base n at (omega arith) in
    let i : base + (at + 2) ≡ base + at + 2 = omega arith in
    let b : number_at p (at + 2) ≡ number_at s (base + at + 2) = two-part s base n (at + 2) (omega arith) ∙ ap (λ (j : ℕ). number_at s j) i in
    let j : base + (at + 4) ≡ base + at + 4 = omega arith in
    let c : part p (at + 4) (number_at p (at + 2)) ≡ part s (base + at + 4) (number_at s (base + at + 2)) =
    part-part s base n (at + 4) (number_at p (at + 2)) (omega arith) ∙ ap₂ (λ (u : ℕ) (v : ℕ). part s u v) j b in
    let z : base + next_substitution p at ≡ next_substitution s (base + at) = omega arith in
    (sym a ∙ e, ap expression.read (sym c) ∙ q, omega arith, subst (λ (u : ℕ). SubstitutionsAt s u (base + n) ss) z (substitutions-part s base n h ss (next_substitution p at) r))
