-- A walk over the tree that is found at a part of the file is a fold over the expression that the rules read there, also if it looks at
-- positions: it need agree with the fold only at the tokens that stand in that part.
-- Assumes nothing.
use mathlib.Core.Path.{◌≡◌, sym, ap, ◌∙◌, subst}
use mathlib.Core.List.{List}
use mathlib.Core.Option.{some}
use Prim.Native.Nat.{ℕ, zero, suc, ◌+◌, ◌≤◌, ◌<◌}
use native.Mathlib.Omega.{arith}
use lib.ListN.{length}
use Rattle.std.specs.Prelude.{Some}
use Rattle.rules.specs.Expression.{Expression, expression, Laid, nesting}
use Rattle.laws.proofs.Expressions.{expression-back}
use Rattle.tokens.specs.Token.{token_at, width_of, arguments_of}
use Rattle.tokens.specs.Expr.{Expr, Found, found, none as nothing, Founds, founds, nones, before, after, several, over, expr_at}
use Rattle.tokens.specs.Fold.{Algebra, fold, Worth}
use Rattle.tokens.specs.declared.Token.{Token as PlacedToken}
use Rattle.tokens.proofs.Places.{spans}
use Rattle.tokens.proofs.Reading.{heads}
use Rattle.fields.specs.Substitution.{part}
use Rattle.agree.specs.Trees.{as_tree, AllTokens, AllTokensOf}
use Rattle.agree.specs.Folds.{Folding, fold_of, AgreesAt}
use Rattle.agree.proofs.Expressions.{expression-in-file}
use Rattle.agree.proofs.Folds.{fold-tree}

module _ (s : List ℕ) (P : ℕ → PlacedToken → Type 0) where
  -- P holds of the tokens that stand from one position to another
  abbrev pub Between : ℕ → ℕ → Type 0
  Between from to = (p : ℕ) → from ≤ p → p < to → (t : PlacedToken) → token_at s p ≡ Some t → P p t

  -- so it holds of those of a tree that is found there
  abbrev Holds : ℕ → Found → Type 0
  Holds at (found t e) = (at < e) × (Between at e → AllTokens P t)
  Holds at nothing = Unit {0}

  abbrev HoldAll : ℕ → Founds → Type 0
  HoldAll at (founds ts e) = (at ≤ e) × (Between at e → AllTokensOf P ts)
  HoldAll at nones = Unit {0}

  hold-before : (at m : ℕ) (t : Expr) (g : Founds) → at < m → (Between at m → AllTokens P t) → HoldAll m g → HoldAll at (before t g)
  hold-before at m t (founds ts e) a f (b, g) = (omega arith, λ h. (f (λ p i j. h p i (omega arith)), g (λ p i j. h p (omega arith) j)))
  hold-before at m t nones a f u = tt

  hold-after : (at : ℕ) (x : Found) (r : ℕ → Founds) → Holds at x → ((m : ℕ) → HoldAll m (r m)) → HoldAll at (after x r)
  hold-after at (found t m) r (a, f) h = hold-before at m t (r m) a f (h m)
  hold-after at nothing r u h = tt

  hold-several : (f : ℕ → Found) → ((q : ℕ) → Holds q (f q)) → (k q : ℕ) → HoldAll q (several f q k)
  hold-several f h zero q = (omega arith, λ b. tt)
  hold-several f h (suc k) q = hold-after q (f q) (λ e. several f e k) (h q) (λ e. hold-several f h k e)

  hold-over : (at w : ℕ) (t : PlacedToken) (g : Founds) → token_at s at ≡ Some t → 2 ≤ w → HoldAll (at + w) g → Holds at (over at t g)
  hold-over at w t (founds ts e) i l (b, g) = (omega arith, λ h. (h at (omega arith) (omega arith) t i, g (λ p j k. h p (omega arith) k)))
  hold-over at w t nones i l u = tt

  holds : (n at : ℕ) → Holds at (expr_at n s at)
  unfolding expr_at
  holds zero at = tt
  holds (suc n) at =
      let follow : PlacedToken → Founds = λ t. several (expr_at n s) (at + width_of t) (arguments_of t) in
      heads (Holds at) at (token_at s at) follow
      (λ t i. hold-over at (width_of t) t (follow t) i (spans s at t i).0 (hold-several (expr_at n s) (holds n) (arguments_of t) (at + width_of t)))
      (λ _. tt)

  pub tokens-found : (n at : ℕ) (t : Expr) (e : ℕ) → expr_at n s at ≡ found t e → Between at e → AllTokens P t
  tokens-found n at t e q h = (subst (Holds at) q (holds n at)).1 h

module _ (s : List ℕ) (at l : ℕ) (x : Expression) (room : at + l ≤ length s) (q : expression.read (part s at l) ≡ some x) (n : ℕ) (deep : nesting x ≤ n) where
  module _ {E R A : Type 0} (G : Algebra E R A) (H : Folding E R A) (start : G.start ≡ H.start) (push : (r : R) (a : A) → G.push r a ≡ H.push r a)
      (agrees : Between s (AgreesAt G H) at (at + l)) where
    pub fold-in-file : (e : E) → (t : Expr) × (expr_at n s at ≡ found t (at + l)) × (as_tree t ≡ x) × (fold G e t ≡ fold_of H e x)
    fold-in-file e =
        let a = expression-in-file s at l x room q n deep in
        let laid : Laid (as_tree a.0) = subst Laid (sym a.2) (expression-back (part s at l) x q).0.0 in
        let all = tokens-found s (AgreesAt G H) n at a.0 (at + l) a.1 agrees in
        (a.0, a.1, a.2, fold-tree G H start push a.0 laid all e ∙ ap (fold_of H e) a.2)

    -- What a walk works out at that part, as its contract has it.
    pub worth-in-file : (e : E) (v : R) (end : ℕ) → Worth G e (expr_at n s at) v end → (v ≡ fold_of H e x) × (end ≡ at + l)
    unfolding Worth
    worth-in-file e v end w =
        let a = fold-in-file e in
        let u : (v ≡ fold G e a.0) × (end ≡ at + l) = subst (λ (f : Found). Worth G e f v end) a.1 w in
        (u.0 ∙ a.3, u.1)
