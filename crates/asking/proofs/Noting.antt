-- The table beside a query's bytes, which the walk does without: what it says of a name, and that noting it anew changes nothing.
use mathlib.Core.Bool.{Bool, cond, false, true}
use mathlib.Core.List.{List, [], ◌∷◌}
use mathlib.Core.Path.{◌∙◌, ◌≡◌, ap, refl}
use Prim.Native.Nat.{ℕ, ◌<◌}
use native.Mathlib.Omega.{arith}
use lib.ListN.{get_or, length, length-map, set}
use lib.Seq.{set-get_or}
use Rattle.limits.specs.Limits.{max_nesting}
use Rattle.theory.specs.Lists.{numbers_from}
use Rattle.theory.specs.Tree.{node, ⟨⟩, ◌▹◌}
use Rattle.tokens.specs.Expr.{Expr, Exprs, Found, expr_at, found, none}
use Rattle.tokens.specs.Token.{token_at}
use Rattle.tokens.specs.declared.Token.{Token}
use Rattle.texts.specs.Noted.{is_name, note, noted, noteds}
use Rattle.texts.proofs.Noting.{noted-length}
use Rattle.levels.proofs.Numbered.{numbers-length}
use Rattle.resolve.specs.Walk.{Looks, Notes, miscounted_in, number_in, unknown_in}
use Rattle.text_levels.proofs.OwnWorld.{AllRefsBelow, RefsBelow}
use Rattle.agree.specs.Folds.{searching}
use Rattle.agree.specs.Trees.{AllTokens, AllTokensOf}
use Rattle.skimming.specs.Kept.{KeptWorth}
use Rattle.skimming.proofs.Keeping.{kept-worth}
use Rattle.asking.specs.Asks.{NamesAsked, name_cause}
use Rattle.asking.specs.Walk.{Answered, numbers_in, number_there}
use Rattle.asking.specs.declared.Walked.{Walked}
use Rattle.store.specs.declared.Facts.{Facts}

-- the table says of every name what `look` says
abbrev pub Reads : (Token → ℕ) → List ℕ → Expr → Type 0
Reads look refs t = AllTokens (λ at x. is_name x ≡ true → get_or refs at 0 ≡ look x) t

abbrev pub ReadsAll : (Token → ℕ) → List ℕ → Exprs → Type 0
ReadsAll look refs ts = AllTokensOf (λ at x. is_name x ≡ true → get_or refs at 0 ≡ look x) ts

-- so it stays what it is if they are noted
note-same : (look : Token → ℕ) (at : ℕ) (t : Token) (refs : List ℕ) → (is_name t ≡ true → get_or refs at 0 ≡ look t) → note look at t refs ≡ refs
note-same look at t refs h = go (is_name t) h
  where
    go : (b : Bool) → (b ≡ true → get_or refs at 0 ≡ look t) → cond b (set refs at (look t)) refs ≡ refs
    go true r = rw (← r refl) (set-get_or refs at 0)
    go false r = refl

mutual
  unfolding noted

  pub noted-same : (t : Expr) (look : Token → ℕ) (refs : List ℕ) → Reads look refs t → noted look t refs ≡ refs
  noted-same (node h ts) look refs (a, b) = ap (noteds look ts) (note-same look h.at h.token refs a) ∙ noteds-same ts look refs b

  noteds-same : (ts : Exprs) (look : Token → ℕ) (refs : List ℕ) → ReadsAll look refs ts → noteds look ts refs ≡ refs
  noteds-same ⟨⟩ look refs r = refl
  noteds-same (t ▹ ts) look refs (a, b) = ap (noteds look ts) (noted-same t look refs a) ∙ noteds-same ts look refs b

pub table-length : (names : List ℕ) (facts : List Facts) (cs s : List ℕ) → length (numbers_in names facts cs s) ≡ length s
unfolding numbers_in
table-length names facts cs s = length-map (numbers_from 0 (length s)) (λ i. number_there names facts cs (token_at s i)) ∙ numbers-length 0 (length s)

-- numbers below a bound are read below it
abbrev pub Low : (Token → ℕ) → ℕ → ℕ → Token → Type 0
Low look m at t = is_name t ≡ true → look t < m

mutual
  pub reads-below : (t : Expr) (look : Token → ℕ) (m : ℕ) (refs : List ℕ) → Reads look refs t → AllTokens (Low look m) t → RefsBelow m refs t
  reads-below (node h ts) look m refs (a, b) (x, y) = (λ n. omega (arith, a n, x n), all-below ts look m refs b y)

  all-below : (ts : Exprs) (look : Token → ℕ) (m : ℕ) (refs : List ℕ) → ReadsAll look refs ts → AllTokensOf (Low look m) ts → AllRefsBelow m refs ts
  all-below ⟨⟩ look m refs a x = tt
  all-below (t ▹ ts) look m refs (a, b) (x, y) = (reads-below t look m refs a x, all-below ts look m refs b y)

-- a table of no entries keeps none
empty : (xs : List ℕ) → length xs ≡ 0 → [] ≡ xs
empty [] e = refl
empty (x ∷ xs) e = absurd (omega arith)

notes-none : (names : List ℕ) (facts : List Facts) (cs : List ℕ) (x : Found) → Notes names facts cs x [] []
unfolding Notes
notes-none names facts cs (found t e) = empty (noted (number_in names facts cs) t []) (noted-length t (number_in names facts cs) [])
notes-none names facts cs none = refl

-- a walk that keeps the limits answers causes 9 and 10
pub kept-asked : (names : List ℕ) (facts : List Facts) (cs : List ℕ) (p : ℕ) (s : List ℕ) (kept u w : Bool) (x : ℕ)
    → KeptWorth (searching (unknown_in names facts cs p)) 0 (expr_at max_nesting s 0) kept u x
    → KeptWorth (searching (miscounted_in names facts cs)) 0 (expr_at max_nesting s 0) kept w x → kept ≡ true
    → (r : ℕ) → r ≡ name_cause u w → NamesAsked names facts cs p (expr_at max_nesting s 0) r
unfolding Looks
kept-asked names facts cs p s kept u w x hu hw k r e = record {
  table = [];
  noted = [];
  unknown = u;
  miscounted = w;
  next = x;
  looks = (
    kept-worth (searching (unknown_in names facts cs p)) 0 (expr_at max_nesting s 0) kept u x hu k,
    kept-worth (searching (miscounted_in names facts cs)) 0 (expr_at max_nesting s 0) kept w x hw k,
    notes-none names facts cs (expr_at max_nesting s 0),
  );
  cause = e;
}

pub names-asked : (names : List ℕ) (facts : List Facts) (cs words : List ℕ) (p : ℕ) (s : List ℕ) (w : Walked) → Answered names facts cs words p s w
    → (r : ℕ) → r ≡ name_cause w.looked.unknown w.looked.miscounted → NamesAsked names facts cs p (expr_at max_nesting s 0) r
names-asked names facts cs words p s w h r e =
    kept-asked names facts cs p s true w.looked.unknown w.looked.miscounted w.looked.next h.causes.unknown h.causes.miscounted refl r e
