-- The token that stands at a position is the one that the rules read there, and the other way round.
-- Assumes nothing.
use mathlib.Core.Path.{◌≡◌, refl, sym, ap, ◌∙◌}
use mathlib.Core.Bool.{true, false}
use mathlib.Core.List.{List, ◌++◌}
use Prim.Native.Nat.{ℕ, zero, suc, ◌+◌, ◌/◌, ◌%◌, ◌-◌, ◌≤◌, ◌<◌}
use native.Mathlib.Nat.{add-zero}
use native.Mathlib.Omega.{arith}
use lib.Dec.{T, leb, eqb, leb→le, le→leb}
use lib.ListN.{length, get_or, drop, length-drop}
use lib.Seq.{get_or-drop, drop-drop, drop_at}
use borrow.Author.Tests.{le-leb, ne_eqb, eqb-false}
use Rattle.std.specs.Prelude.{None, Some}
use Rattle.rules.specs.Bytes.{Read, cut, got}
use Rattle.rules.specs.Expression.{Token, parameter, bound_variable, operator, instance_operator, built_in, numeral, token_arity, write_token, TokenFits, token}
use Rattle.laws.proofs.Expressions.{token-there, token_back}
use Rattle.rows.specs.Rows.{no_code, arity_of}
use Rattle.tokens.specs.Token.{token_at, tagged_at, number_at, width_of, arguments_of}
use Rattle.tokens.specs.Expr.{spell}
use Rattle.tokens.specs.declared.Token.{Token as FileToken}
use Rattle.tokens.specs.declared.Token.TheVariants.{Parameter, Bound, Name, InstanceOperator, BuiltIn, Literal}
use Rattle.tokens.proofs.Places.{Each, cases, each_fitting, each_none, each_some}
use Rattle.tokens.proofs.Writing.{Bytes, spelled}
use Rattle.agree.specs.Trees.{as_token, as_placed}
use Rattle.agree.proofs.Codes.{code-exists, code-known}

pub as-back : (t : Token) → as_token (as_placed t) ≡ t
as-back (parameter i) = refl
as-back (bound_variable j) = refl
as-back (operator n k) = refl
as-back (instance_operator i f k) = refl
as-back (built_in c) = refl
as-back (numeral v) = refl

pub width-placed : (t : Token) → length (write_token t) ≡ width_of (as_placed t)
width-placed (parameter i) = refl
width-placed (bound_variable j) = refl
width-placed (operator n k) = refl
width-placed (instance_operator i f k) = refl
width-placed (built_in c) = refl
width-placed (numeral v) = refl

pub args-placed : (t : Token) → TokenFits t → token_arity t ≡ arguments_of (as_placed t)
args-placed (parameter i) h = refl
args-placed (bound_variable j) h = refl
args-placed (operator n k) h = refl
args-placed (instance_operator i f k) h = refl
args-placed (built_in c) h = (code-known c h.1).1
args-placed (numeral v) h = refl

pub spell-as : (t : FileToken) (r : List ℕ) → spell t r ≡ write_token (as_token t) ++ r
spell-as (Parameter i) r = refl
spell-as (Bound j) r = refl
spell-as (Name n k) r = refl
spell-as (InstanceOperator i f k) r = refl
spell-as (BuiltIn c) r = refl
spell-as (Literal v) r = refl

-- what is placed fits, and takes as many arguments
abbrev Good : FileToken → Type 0
Good t = TokenFits (as_token t) × (token_arity (as_token t) ≡ arguments_of t)

two-small : (s : List ℕ) (i : ℕ) → Bytes s → number_at s i < 65536
two-small s i h = let a = h i in let b = h (i + 1) in omega arith

one_more : (n : ℕ) → eqb n 0 ≡ false → T (leb 1 n)
one_more zero e = absurd (eqb-false 0 0 e refl)
one_more (suc n) e = le→leb 1 (suc n) (omega arith)

module _ (s : List ℕ) (at : ℕ) (h : Bytes s) where
  good-tag : Each Good (tagged_at s at (get_or s at 0))
  unfolding tagged_at
  good-tag =
      let b = get_or s at 0 in
      let n = number_at s (at + 1) in
      let m = number_at s (at + 3) in
      let c = get_or s (at + 1) 0 in
      cases (Each Good) (eqb b 0) (λ _. each_some Good (Parameter c) (h (at + 1), refl))
      (λ _. cases (Each Good) (eqb b 1) (λ _. each_some Good (Bound n) (two-small s (at + 1) h, refl))
      (λ _. cases (Each Good) (eqb b 2)
      (λ _. cases (Each Good) (eqb n 0) (λ _. each_none Good)
      (λ z. each_some Good (Name n (get_or s (at + 3) 0)) (((two-small s (at + 1) h, one_more n z), h (at + 3)), refl)))
      (λ _. cases (Each Good) (eqb b 3)
      (λ _. cases (Each Good) (eqb n 0) (λ _. each_none Good)
      (λ y. cases (Each Good) (eqb m 0) (λ _. each_none Good)
      (λ z. each_some Good (InstanceOperator n m (get_or s (at + 5) 0)) (((two-small s (at + 1) h, one_more n y), ((two-small s (at + 3) h, one_more m z), h (at + 5))), refl))))
      (λ _. cases (Each Good) (eqb b 4)
      (λ _. cases (Each Good) (eqb (arity_of c) no_code) (λ _. each_none Good)
      (λ z. let k = code-exists c z in each_some Good (BuiltIn c) ((h (at + 1), k.0), k.1)))
      (λ _. cases (Each Good) (eqb b 5) (λ _. each_some Good (Literal n) (two-small s (at + 1) h, refl))
      (λ _. each_none Good))))))

  pub good-at : Each Good (token_at s at)
  unfolding token_at
  good-at = each_fitting Good s at (tagged_at s at (get_or s at 0)) good-tag

  -- a token that stands there is what the rules read
  pub token-read : (t : FileToken) → token_at s at ≡ Some t → token.read (drop at s) ≡ got (as_token t) (drop (at + width_of t) s)
  token-read t i =
      let r = drop (at + width_of t) s in
      ap token.read (spelled s at h t i ∙ spell-as t r) ∙ token-there (as_token t) r (good-at t i).0

-- a token that is written there stands there
at_drop : (s : List ℕ) (at i : ℕ) (l : List ℕ) → drop at s ≡ l → get_or s (at + i) 0 ≡ get_or l i 0
at_drop s at i l e = sym (get_or-drop at s i 0) ∙ ap (λ (x : List ℕ). get_or x i 0) e

-- what stands after something
pub past-drop : (s : List ℕ) (at : ℕ) (w r : List ℕ) → drop at s ≡ w ++ r → drop (at + length w) s ≡ r
past-drop s at w r e = sym (drop-drop (length w) at s) ∙ ap (drop (length w)) e ∙ drop_at w r (length w) refl

first-drop : (s : List ℕ) (at : ℕ) (l : List ℕ) → drop at s ≡ l → get_or s at 0 ≡ get_or l 0 0
first-drop s at l e = rw add-zero at (at_drop s at 0 l e)

two-drop : (s : List ℕ) (at i n : ℕ) (l : List ℕ) → drop at s ≡ l → get_or l i 0 ≡ n / 256 → get_or l (suc i) 0 ≡ n % 256 → number_at s (at + i) ≡ n
two-drop s at i n l e p q =
    let j : at + i + 1 ≡ at + suc i = omega arith in
    let a : get_or s (at + i) 0 ≡ n / 256 = at_drop s at i l e ∙ p in
    let b : get_or s (at + suc i) 0 ≡ n % 256 = at_drop s at (suc i) l e ∙ q in
    rw (j, a, b) (omega arith)

room : (s : List ℕ) (at w : ℕ) (l : List ℕ) → drop at s ≡ l → 1 ≤ w → w ≤ length l → leb (at + w) (length s) ≡ true
room s at w l e k h =
    let d : length s - at ≡ length l = sym (length-drop at s) ∙ ap length e in
    le-leb (at + w) (length s) (omega arith)

nonzero : (n : ℕ) → T (leb 1 n) → eqb n 0 ≡ false
nonzero n h = let k = leb→le 1 n h in ne_eqb n 0 (λ (z : n ≡ 0). omega arith)

pub token-placed : (s : List ℕ) (at : ℕ) (t : Token) (r : List ℕ) → TokenFits t → drop at s ≡ write_token t ++ r → token_at s at ≡ Some (as_placed t)
unfolding token_at tagged_at
token-placed s at (parameter i) r f e =
    let a : get_or s at 0 ≡ 0 = first-drop s at _ e in
    let b : get_or s (at + 1) 0 ≡ i = at_drop s at 1 _ e in
    rw (a, b, room s at 2 _ e (omega arith) (omega arith))
token-placed s at (bound_variable j) r f e =
    let a : get_or s at 0 ≡ 1 = first-drop s at _ e in
    let b : number_at s (at + 1) ≡ j = two-drop s at 1 j _ e refl refl in
    rw (a, b, room s at 3 _ e (omega arith) (omega arith))
token-placed s at (operator n k) r f e =
    let a : get_or s at 0 ≡ 2 = first-drop s at _ e in
    let b : number_at s (at + 1) ≡ n = two-drop s at 1 n _ e refl refl in
    let c : get_or s (at + 3) 0 ≡ k = at_drop s at 3 _ e in
    rw (a, b, c, nonzero n f.0.1, room s at 4 _ e (omega arith) (omega arith))
token-placed s at (instance_operator i g k) r f e =
    let a : get_or s at 0 ≡ 3 = first-drop s at _ e in
    let b : number_at s (at + 1) ≡ i = two-drop s at 1 i _ e refl refl in
    let c : number_at s (at + 3) ≡ g = two-drop s at 3 g _ e refl refl in
    let d : get_or s (at + 5) 0 ≡ k = at_drop s at 5 _ e in
    rw (a, b, c, d, nonzero i f.0.1, nonzero g f.1.0.1, room s at 6 _ e (omega arith) (omega arith))
token-placed s at (built_in c) r f e =
    let a : get_or s at 0 ≡ 4 = first-drop s at _ e in
    let b : get_or s (at + 1) 0 ≡ c = at_drop s at 1 _ e in
    rw (a, b, (code-known c f.1).0, room s at 2 _ e (omega arith) (omega arith))
token-placed s at (numeral v) r f e =
    let a : get_or s at 0 ≡ 5 = first-drop s at _ e in
    let b : number_at s (at + 1) ≡ v = two-drop s at 1 v _ e refl refl in
    rw (a, b, room s at 3 _ e (omega arith) (omega arith))

-- what the rules read as a token stands there as that token, and the rest begins after it
pub token-stands : (s : List ℕ) (at : ℕ) (t : Token) (r : List ℕ) → token.read (drop at s) ≡ got t r
    → (token_at s at ≡ Some (as_placed t)) × (r ≡ drop (at + width_of (as_placed t)) s)
token-stands s at t r e =
    let b = token_back (drop at s) t r e in
    (token-placed s at t r b.0 (sym b.1), rw (← width-placed t) (sym (past-drop s at (write_token t) r (sym b.1))))

-- where no token stands the rules read none
pub token-cut : (s : List ℕ) (at : ℕ) → token_at s at ≡ None → token.read (drop at s) ≡ cut
token-cut s at i = go (token.read (drop at s)) refl
  where
    go : (o : Read Token) → token.read (drop at s) ≡ o → token.read (drop at s) ≡ cut
    go cut q = q
    go (got t r) q = let e = (token-stands s at t r q).0 in absurd (let z : ◌≡◌ {A = ℕ} 0 1 = cc in omega arith)
