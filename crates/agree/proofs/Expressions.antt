-- The expression that stands at a position is the one that the rules read there; the flat scan agrees with the rules' reader.
-- Assumes nothing.
use mathlib.Core.Path.{◌≡◌, refl, sym, ap, ap₂, ◌∙◌}
use mathlib.Core.Bool.{Bool, true, false}
use mathlib.Core.List.{List, [], ◌++◌, append_assoc, append-nil}
use mathlib.Core.Option.{Option, none, some}
use Prim.Native.Nat.{ℕ, zero, suc, ◌+◌, ◌-◌, ◌≤◌, ◌<◌, max}
use native.Mathlib.Nat.{add-zero}
use native.Mathlib.Omega.{arith}
use lib.Dec.{leb, eqb}
use lib.ListN.{length, drop, length-append, length-drop, take-append-drop, drop_of_length-le}
use lib.Seq.{length-take-le}
use borrow.Author.Tests.{eq-eqb, eqb-true, leb-true, leb-false}
use Rattle.std.specs.Prelude.{Some}
use Rattle.theory.specs.Lists.{All, is_some}
use Rattle.theory.specs.Tree.{Trees, node, ⟨⟩, ◌▹◌, count}
use Rattle.theory.proofs.Lists.{append-all, split-all}
use Rattle.rules.specs.Bytes.{when, write_all}
use Rattle.rules.specs.Expression.{Token, token_arity, write_token, TokenFits, token, Expression, tokens_of, tokens_of_all, LaidAll, expression, nesting, nesting_all}
use Rattle.laws.proofs.Formats.{clash-none}
use Rattle.laws.proofs.Expressions.{token-some, expression-there, expression-back, write-append}
use Rattle.tokens.specs.Token.{token_at, width_of, arguments_of}
use Rattle.tokens.specs.Expr.{Expr, Exprs, placed, Found, found, none as nothing, Founds, founds, nones, before, after, several, over, expr_at, ends_at, whole_of}
use Rattle.tokens.specs.declared.Token.{Token as PlacedToken}
use Rattle.tokens.proofs.Places.{never}
use Rattle.tokens.proofs.Reading.{heads}
use Rattle.tokens.proofs.Writing.{Bytes, spelled}
use Rattle.fields.specs.Substitution.{part}
use Rattle.agree.specs.Trees.{as_token, as_placed, as_tree, as_trees, filling}
use Rattle.agree.proofs.Tokens.{as-back, width-placed, args-placed, spell-as, good-at, token-placed, past-drop}

-- no expression nests deeper than it has bytes
mutual
  pub nesting-length : (e : Expression) → nesting e ≤ length (expression.write e)
  nesting-length (node t es) =
      let w : length (write_token t ++ write_all token (tokens_of_all es)) ≡ length (write_token t) + length (write_all token (tokens_of_all es)) =
      length-append (write_token t) (write_all token (tokens_of_all es)) in
      let k = token-some t in
      let i = nestings-length es in
      omega arith

  nestings-length : (es : Trees Token) → nesting_all es ≤ length (write_all token (tokens_of_all es))
  nestings-length ⟨⟩ = omega arith
  nestings-length (e ▹ es) =
      let w : length (write_all token (tokens_of e ++ tokens_of_all es)) ≡ length (expression.write e) + length (write_all token (tokens_of_all es)) =
      ap length (write-append (tokens_of e) (tokens_of_all es)) ∙ length-append (expression.write e) (write_all token (tokens_of_all es)) in
      let i = nesting-length e in
      let j = nestings-length es in
      omega arith

-- What is read at a position is written there, and fits.
abbrev pub Stands : List ℕ → ℕ → Found → Type 0
Stands s at (found t e) = expression.Fits (as_tree t) × (drop at s ≡ expression.write (as_tree t) ++ drop e s)
Stands s at nothing = Unit {0}

abbrev StandAll : List ℕ → ℕ → ℕ → Founds → Type 0
StandAll s at k (founds ts e) =
    (count (as_trees ts) ≡ k) × LaidAll (as_trees ts) × All TokenFits (tokens_of_all (as_trees ts)) × (drop at s ≡ write_all token (tokens_of_all (as_trees ts)) ++ drop e s)
StandAll s at k nones = Unit {0}

module _ (s : List ℕ) where
  stand-before : (at p k : ℕ) (t : Expr) (g : Founds) → expression.Fits (as_tree t) → drop at s ≡ expression.write (as_tree t) ++ drop p s → StandAll s p k g
      → StandAll s at (suc k) (before t g)
  stand-before at p k t (founds ts e) f a (c, l, v, b) =
      let m = tokens_of_all (as_trees ts) in (
        ap suc c,
        (f.0, l),
        append-all TokenFits (tokens_of (as_tree t)) m f.1 v,
        a ∙ ap (λ (x : List ℕ). expression.write (as_tree t) ++ x) b ∙ sym (append_assoc (expression.write (as_tree t)) (write_all token m) (drop e s))
            ∙ ap (λ (x : List ℕ). x ++ drop e s) (sym (write-append (tokens_of (as_tree t)) m)),
      )
  stand-before at p k t nones f a u = tt

  stand-after : (at k : ℕ) (x : Found) (r : ℕ → Founds) → Stands s at x → ((q : ℕ) → StandAll s q k (r q)) → StandAll s at (suc k) (after x r)
  stand-after at k (found t p) r (f, a) h = stand-before at p k t (r p) f a (h p)
  stand-after at k nothing r a h = tt

  stand-several : (f : ℕ → Found) → ((q : ℕ) → Stands s q (f q)) → (k q : ℕ) → StandAll s q k (several f q k)
  stand-several f h zero q = (refl, tt, tt, refl)
  stand-several f h (suc k) q = stand-after q k (f q) (λ e. several f e k) (h q) (λ e. stand-several f h k e)

  stand-grown : (at p k : ℕ) (t : PlacedToken) (g : Founds) → TokenFits (as_token t) → token_arity (as_token t) ≡ k → drop at s ≡ write_token (as_token t) ++ drop p s → StandAll s p k g
      → Stands s at (over at t g)
  stand-grown at p k t (founds ts e) f n a (c, l, v, b) =
      let m = write_all token (tokens_of_all (as_trees ts)) in (
        ((c ∙ sym n, l), (f, v)),
        a ∙ ap (λ (x : List ℕ). write_token (as_token t) ++ x) b ∙ sym (append_assoc (write_token (as_token t)) m (drop e s)),
      )
  stand-grown at p k t nones f n a b = tt

  pub stands : Bytes s → (n at : ℕ) → Stands s at (expr_at n s at)
  unfolding expr_at
  stands h zero at = tt
  stands h (suc n) at =
      let follow : PlacedToken → Founds = λ t. several (expr_at n s) (at + width_of t) (arguments_of t) in
      heads (Stands s at) at (token_at s at) follow
      (λ t i. stand-grown at (at + width_of t) (arguments_of t) t (follow t) (good-at s at h t i).0 (good-at s at h t i).1
      (spelled s at h t i ∙ spell-as t (drop (at + width_of t) s)) (stand-several (expr_at n s) (stands h n) (arguments_of t) (at + width_of t)))
      (λ _. tt)

  either : {A : Type 0} (b : Bool) → (b ≡ true → A) → (b ≡ false → A) → A
  either true f g = f refl
  either false f g = g refl

  rest : (a b n : ℕ) → n < max a b → a ≤ n → n < b
  rest a b n h k = omega arith

  -- What is written at a position is read there.
  mutual
    unfolding expr_at

    pub there : (e : Expression) (n at : ℕ) (r : List ℕ) → expression.Fits e → drop at s ≡ expression.write e ++ r → nesting e ≤ n
        → (t : Expr) × (expr_at n s at ≡ found t (at + length (expression.write e))) × (as_tree t ≡ e)
    there (node t es) zero at r f e l = absurd (omega arith)
    there (node t es) (suc n) at r f e l =
        let m = write_all token (tokens_of_all es) in
        let q : drop at s ≡ write_token t ++ (m ++ r) = e ∙ append_assoc (write_token t) m r in
        let x : token_at s at ≡ Some (as_placed t) = token-placed s at t (m ++ r) f.1.0 q in
        let w : length (write_token t ++ m) ≡ length (write_token t) + length m = length-append (write_token t) m in
        let p : drop (at + length (write_token t)) s ≡ m ++ r = past-drop s at (write_token t) (m ++ r) q in
        let a = theres es n (at + length (write_token t)) r f.0.1 f.1.1 p (omega arith) in
        let k : arguments_of (as_placed t) ≡ count es = sym (args-placed t f.1.0) ∙ sym f.0.0 in
        let z : at + length (write_token t) + length m ≡ at + length (write_token t ++ m) = omega arith in (
          node (placed at (as_placed t)) a.0,
          rw (x, ← width-placed t, k, a.1, z),
          ap₂ node (as-back t) a.2,
        )

    theres : (es : Trees Token) (n at : ℕ) (r : List ℕ) → LaidAll es → All TokenFits (tokens_of_all es) → drop at s ≡ write_all token (tokens_of_all es) ++ r → nesting_all es ≤ n
        → (ts : Exprs) × (several (expr_at n s) at (count es) ≡ founds ts (at + length (write_all token (tokens_of_all es)))) × (as_trees ts ≡ es)
    theres ⟨⟩ n at r f v e l = (⟨⟩, ap (founds ⟨⟩) (sym (add-zero at)), refl)
    theres (x ▹ es) n at r f v e l =
        let m = write_all token (tokens_of_all es) in
        let u = expression.write x in
        let j : write_all token (tokens_of x ++ tokens_of_all es) ≡ u ++ m = write-append (tokens_of x) (tokens_of_all es) in
        let q : drop at s ≡ u ++ (m ++ r) = e ∙ ap (λ (b : List ℕ). b ++ r) j ∙ append_assoc u m r in
        let w : length (write_all token (tokens_of x ++ tokens_of_all es)) ≡ length u + length m = ap length j ∙ length-append u m in
        let h = split-all TokenFits (tokens_of x) (tokens_of_all es) v in
        let a = there x n at (m ++ r) (f.0, h.0) q (omega arith) in
        let b = theres es n (at + length u) r f.1 h.1 (past-drop s at u (m ++ r) q) (omega arith) in
        let z : at + length u + length m ≡ at + length (write_all token (tokens_of x ++ tokens_of_all es)) = omega arith in
        (a.0 ▹ b.0, rw (a.1, b.1, z), ap₂ ◌▹◌ a.2 b.2)

  -- What nests deeper than the fuel is not read.
  mutual
    unfolding expr_at

    pub deep : (e : Expression) (n at : ℕ) (r : List ℕ) → expression.Fits e → drop at s ≡ expression.write e ++ r → n < nesting e → expr_at n s at ≡ nothing
    deep (node t es) zero at r f e l = refl
    deep (node t es) (suc n) at r f e l =
        let m = write_all token (tokens_of_all es) in
        let q : drop at s ≡ write_token t ++ (m ++ r) = e ∙ append_assoc (write_token t) m r in
        let x : token_at s at ≡ Some (as_placed t) = token-placed s at t (m ++ r) f.1.0 q in
        let p : drop (at + length (write_token t)) s ≡ m ++ r = past-drop s at (write_token t) (m ++ r) q in
        let k : arguments_of (as_placed t) ≡ count es = sym (args-placed t f.1.0) ∙ sym f.0.0 in
        rw (x, ← width-placed t, k, deeps es n (at + length (write_token t)) r f.0.1 f.1.1 p (omega arith))

    deeps : (es : Trees Token) (n at : ℕ) (r : List ℕ) → LaidAll es → All TokenFits (tokens_of_all es) → drop at s ≡ write_all token (tokens_of_all es) ++ r → n < nesting_all es
        → several (expr_at n s) at (count es) ≡ nones
    deeps ⟨⟩ n at r f v e l = absurd (omega arith)
    deeps (x ▹ es) n at r f v e l =
        let m = write_all token (tokens_of_all es) in
        let u = expression.write x in
        let q : drop at s ≡ u ++ (m ++ r) = e ∙ ap (λ (b : List ℕ). b ++ r) (write-append (tokens_of x) (tokens_of_all es)) ∙ append_assoc u m r in
        let h = split-all TokenFits (tokens_of x) (tokens_of_all es) v in
        either (leb (nesting x) n)
        (λ k. let a = there x n at (m ++ r) (f.0, h.0) q (leb-true (nesting x) n k) in
        rw (a.1, deeps es n (at + length u) r f.1 h.1 (past-drop s at u (m ++ r) q) (rest (nesting x) (nesting_all es) n l (leb-true (nesting x) n k))))
        (λ k. rw (deep x n at (m ++ r) (f.0, h.0) q (leb-false (nesting x) n k)))

-- an expression that stands at the start and ends with the list is the one that the rules read
sole-read : (s : List ℕ) (t : Expr) (e : ℕ) → Stands s 0 (found t e) → e ≡ length s → expression.read s ≡ some (as_tree t)
sole-read s t e (f, w) q =
    let x : length s ≤ e = omega arith in
    let z : drop e s ≡ [] = drop_of_length-le s x in
    let y : s ≡ expression.write (as_tree t) = w ∙ ap (λ (x : List ℕ). expression.write (as_tree t) ++ x) z ∙ append-nil (expression.write (as_tree t)) in
    ap expression.read y ∙ expression-there (as_tree t) f

none_read : (s : List ℕ) (g : Found) → Stands s 0 g → expression.read s ≡ none → none ≡ filling (length s) g
none_read s (found t e) h q = go (eqb e (length s)) refl
  where
    go : (b : Bool) → eqb e (length s) ≡ b → none ≡ when b (some (as_tree t))
    go true p = clash-none (as_tree t) (sym q ∙ sole-read s t e h (eqb-true e (length s) p))
    go false p = refl
none_read s nothing h q = refl

some_read : (s : List ℕ) (e : Expression) → expression.read s ≡ some e → (t : Expr) × (expr_at (length s) s 0 ≡ found t (length s)) × (as_tree t ≡ e)
some_read s e q =
    let b = expression-back s e q in
    let l : length (expression.write e) ≡ length s = ap length b.1 in
    let a = there s e (length s) 0 [] b.0 (sym b.1 ∙ sym (append-nil (expression.write e))) (omega (arith, nesting-length e)) in
    let z : 0 + length (expression.write e) ≡ length s = omega arith in
    (a.0, a.1 ∙ ap (found a.0) z, a.2)

-- What the rules read of a list of bytes is the tree that stands at its start, if it ends where the list does.
pub expression-agrees : (s : List ℕ) → Bytes s → expression.read s ≡ filling (length s) (expr_at (length s) s 0)
expression-agrees s h = go (expression.read s) refl
  where
    go : (o : Option Expression) → expression.read s ≡ o → o ≡ filling (length s) (expr_at (length s) s 0)
    go none q = none_read s (expr_at (length s) s 0) (stands s h (length s) 0) q
    go (some e) q = let a = some_read s e q in rw (a.1, eq-eqb (length s) (length s) refl, a.2)

end-value : (l : ℕ) (g : Found) → ends_at l g ≡ is_some (filling l g)
end-value l (found t e) = go (eqb e l)
  where
    go : (b : Bool) → b ≡ is_some (when b (some (as_tree t)))
    go true = refl
    go false = refl
end-value l nothing = refl

-- The flat scan says whether the rules read an expression.
pub whole-agrees : (s : List ℕ) → Bytes s → whole_of s ≡ is_some (expression.read s)
unfolding whole_of
whole-agrees s h = end-value (length s) (expr_at (length s) s 0) ∙ ap (is_some {A = Expression}) (sym (expression-agrees s h))

pub whole-read : (s : List ℕ) → Bytes s → whole_of s ≡ true → (e : Expression) × (expression.read s ≡ some e)
whole-read s h w = go (expression.read s) refl
  where
    go : (o : Option Expression) → expression.read s ≡ o → (e : Expression) × (expression.read s ≡ some e)
    go none q = never (sym (ap (is_some {A = Expression}) q) ∙ sym (whole-agrees s h) ∙ w)
    go (some e) q = (e, q)

pub not-whole : (s : List ℕ) → Bytes s → whole_of s ≡ false → expression.read s ≡ none
not-whole s h w = go (expression.read s) refl
  where
    go : (o : Option Expression) → expression.read s ≡ o → expression.read s ≡ none
    go none q = q
    go (some e) q = never (sym w ∙ whole-agrees s h ∙ ap (is_some {A = Expression}) q)

-- An expression that the rules read in a part of the file stands at that position of the file: the walks read its tree there, at any nesting
-- that it does not pass, and go on after it; at a lower nesting they read nothing.
module _ (s : List ℕ) (at l : ℕ) (e : Expression) (h : at + l ≤ length s) (q : expression.read (part s at l) ≡ some e) where
  written : (expression.Fits e) × (drop at s ≡ expression.write e ++ drop l (drop at s)) × (length (expression.write e) ≡ l)
  written =
      let b = expression-back (part s at l) e q in
      let d : length (drop at s) ≡ length s - at = length-drop at s in
      (b.0, sym (take-append-drop l (drop at s)) ∙ ap (λ (x : List ℕ). x ++ drop l (drop at s)) (sym b.1), ap length b.1 ∙ length-take-le l (drop at s) (omega arith))

  pub expression-in-file : (n : ℕ) → nesting e ≤ n → (t : Expr) × (expr_at n s at ≡ found t (at + l)) × (as_tree t ≡ e)
  expression-in-file n k =
      let a = there s e n at (drop l (drop at s)) written.0 written.1 k in
      (a.0, a.1 ∙ ap (λ (x : ℕ). found a.0 (at + x)) written.2, a.2)

  pub too-deep-in-file : (n : ℕ) → n < nesting e → expr_at n s at ≡ nothing
  too-deep-in-file n k = deep s e n at (drop l (drop at s)) written.0 written.1 k
