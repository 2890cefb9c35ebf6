-- What the walk says and writes of an expression and of argument lists. Definitions only.
use Rattle.std.specs.Prelude.{true, ◌||◌, List, ◌≡◌, ℕ, ◌<◌, ◌≤◌, Option, None, Some}
use Rattle.limits.specs.Limits.{max_arity}
use Rattle.tokens.specs.Expr.{Found, Founds}
use Rattle.tokens.specs.Token.{arguments_of, token_at}
use Rattle.tokens.specs.declared.Token.{Token}
use Rattle.resolve.specs.Look.{look_in}
use Rattle.resolve.specs.Walk.{miscounted_at, number_in, unknown_at}
use Rattle.resolve.specs.declared.Look.{Look}
use Rattle.resolve.specs.declared.Looked.{Looked}
use Rattle.skimming.specs.Skims.{AllSkimmed, Skimmed, Skims, SkimsAll}
use Rattle.spelling.specs.Strings.{by_context}
use Rattle.spelling.specs.Written.{AllWrote, ArgumentWrote, Headed, Wrote, declarations_in, place_of, shape_in}
use Rattle.spelling.specs.declared.Rest.{Rest}
use Rattle.query_strings.specs.declared.TokenHead.{TokenHead}
use Rattle.query_strings.specs.declared.Read.{Read}
use Rattle.store.specs.declared.Facts.{Facts}

-- where nothing is written
abbrev pub Unwritten : List ℕ → List Facts → List ℕ → (p bound : ℕ) → Found → (to : ℕ) → Option Read → Type 0
Unwritten names facts cs p bound x to None = Skimmed names facts cs p bound x None
Unwritten names facts cs p bound x to (Some r) = Skims names facts cs p bound x true r.looked × (r.to ≡ to)

-- An expression that keeps the limits: its causes and its end; and its string is put from q on.
pub record Kept (names : List ℕ) (facts : List Facts) (cs declared numbers shapes : List ℕ) (p bound : ℕ) (x : Found) (out : List ℕ) (q : ℕ) (out' : List ℕ) (r : Read) : Type 0 where
  pub skims : Skims names facts cs p bound x true r.looked
  pub wrote : Wrote (by_context names facts cs) (shape_in shapes) (declarations_in names declared) (place_of 0 0 numbers) x out q out' r.to r.looked.next

-- the same as the first of k arguments
pub record KeptArgument (names : List ℕ) (facts : List Facts) (cs declared numbers shapes : List ℕ) (p bound : ℕ) (x : Found) (k : ℕ) (rest : Rest) (out out' : List ℕ) (r : Read) : Type 0 where
  pub skims : Skims names facts cs p bound x true r.looked
  pub wrote : ArgumentWrote (by_context names facts cs) (shape_in shapes) (declarations_in names declared) (place_of 0 0 numbers) x k rest.all rest.mask rest.binds
      out rest.to out' r.to r.looked.next

-- k arguments, in the last of which `last` variables are bound
pub record AllKept (names : List ℕ) (facts : List Facts) (cs declared numbers shapes : List ℕ) (p outer last : ℕ) (x : Founds) (k : ℕ) (rest : Rest) (out out' : List ℕ) (r : Read) : Type 0 where
  pub skims : SkimsAll names facts cs p outer last x true r.looked
  pub wrote : AllWrote (by_context names facts cs) (shape_in shapes) (declarations_in names declared) (place_of 0 0 numbers) x k rest.all rest.mask rest.binds
      out rest.to out' r.to r.looked.next

-- the three of any; none where a limit is passed
abbrev pub Reads : List ℕ → List Facts → (cs declared numbers shapes : List ℕ) → (p bound : ℕ) → Found → (out : List ℕ) → (q : ℕ) → (out' : List ℕ) → Option Read → Type 0
Reads names facts cs declared numbers shapes p bound x out q out' None = Skimmed names facts cs p bound x None
Reads names facts cs declared numbers shapes p bound x out q out' (Some r) = Kept names facts cs declared numbers shapes p bound x out q out' r

abbrev pub ReadsArgument : List ℕ → List Facts → (cs declared numbers shapes : List ℕ) → (p bound : ℕ) → Found → (k : ℕ) → Rest → (out out' : List ℕ) → Option Read → Type 0
ReadsArgument names facts cs declared numbers shapes p bound x k rest out out' None = Skimmed names facts cs p bound x None
ReadsArgument names facts cs declared numbers shapes p bound x k rest out out' (Some r) = KeptArgument names facts cs declared numbers shapes p bound x k rest out out' r

abbrev pub ReadsAll : List ℕ → List Facts → (cs declared numbers shapes : List ℕ) → (p outer last : ℕ) → Founds → (k : ℕ) → Rest → (out out' : List ℕ) → Option Read → Type 0
ReadsAll names facts cs declared numbers shapes p outer last x k rest out out' None = AllSkimmed names facts cs p outer last x None
ReadsAll names facts cs declared numbers shapes p outer last x k rest out out' (Some r) = AllKept names facts cs declared numbers shapes p outer last x k rest out out' r

-- a token stands at a position that nesting reaches, over k arguments, not too many
pub record Stands (s : List ℕ) (at nest : ℕ) (t : Token) (k : ℕ) : Type 0 where
  pub token : token_at s at ≡ Some t
  pub deep : 0 < nest
  pub count : k ≡ arguments_of t
  pub few : k ≤ max_arity

-- a token is looked up, and its first symbols are put
pub record ReadsHead (names : List ℕ) (facts : List Facts) (cs declared numbers shapes : List ℕ) (t : Token) (out : List ℕ) (q : ℕ) (out' : List ℕ) (h : TokenHead) : Type 0 where
  pub look : h.look ≡ look_in names facts cs t
  pub put : Headed (shape_in shapes) (declarations_in names declared) (place_of 0 0 numbers) t (number_in names facts cs t) out q out' h.rest.all h.rest.mask
      h.rest.binds h.rest.to

-- causes 9 and 10 of a token that means l, over those of its arguments
pub record Over (t : Token) (l : Option Look) (p bound : ℕ) (a x : Looked) : Type 0 where
  pub next : x.next ≡ a.next
  pub unknown : x.unknown ≡ (unknown_at p bound t l || a.unknown)
  pub miscounted : x.miscounted ≡ (miscounted_at t l || a.miscounted)

-- the same of a token that may be none, which adds nothing
abbrev pub OverAny : Option Token → Option Look → (p bound : ℕ) → (a x : Looked) → Type 0
OverAny (Some t) l p bound a x = Over t l p bound a x
OverAny None l p bound a x = x ≡ a

-- of an argument and then the others
pub record Joins (a b x : Looked) : Type 0 where
  pub next : x.next ≡ b.next
  pub unknown : x.unknown ≡ (a.unknown || b.unknown)
  pub miscounted : x.miscounted ≡ (a.miscounted || b.miscounted)
