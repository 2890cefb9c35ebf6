-- A query's expression, its names looked up where they stand, is the term that the rules resolve it to.
use mathlib.Core.Bool.{Bool, false, true}
use mathlib.Core.List.{List}
use mathlib.Core.Option.{some}
use mathlib.Core.Path.{◌∙◌, ◌≡◌, ap, ap₂, refl, sym}
use borrow.Author.Tests.{ltb-true}
use lib.Dec.{ltb}
use lib.ListN.{get_or, length}
use native.Mathlib.Nat.{zero-add}
use Prim.Native.Nat.{◌+◌, ◌<◌, ℕ}
use Rattle.limits.specs.Limits.{max_definitions, max_nesting}
use Rattle.theory.specs.Expand.{arities_of}
use Rattle.theory.specs.Term.{Terms, WellFormed, defined, param}
use Rattle.theory.specs.Tree.{◌▹◌, map_trees, node, ⟨⟩}
use Rattle.agree.specs.Trees.{AllTokens, AllTokensOf}
use Rattle.rules.specs.Expression.{Expression, expression, over_limit}
use Rattle.rules.specs.Field.{Field}
use Rattle.rules.specs.State.{State, resolve, templates_of}
use Rattle.context.specs.Holds.{module_no}
use Rattle.context.specs.Entries.{codes_of}
use Rattle.store.specs.declared.Store.{Store}
use Rattle.context.specs.declared.Counts.{Counts}
use Rattle.judge_plain.specs.declared.Phase.{Phase}
use Rattle.levels.proofs.Numbered.{numbers-at}
use Rattle.resolve.proofs.Numbers.{declarations_of}
use Rattle.resolve.specs.Walk.{number_in}
use Rattle.standing.specs.Standing.{Standing, itselves}
use Rattle.texts.specs.Noted.{is_name}
use Rattle.texts.specs.Text.{Declarations, ref_head, shown, token_head}
use Rattle.tokens.proofs.Writing.{Bytes}
use Rattle.tokens.specs.Expr.{Expr, Exprs, Placed, expr_at, found}
use Rattle.tokens.specs.declared.Token.{Token}
use Rattle.tokens.specs.declared.Token.TheVariants.{BuiltIn, Bound, InstanceOperator, Literal, Name, Parameter}
use Rattle.unfolding.specs.InWorld.{named_in, term_in, terms_in, token_in}
use Rattle.spelling.specs.Strings.{AllLooksBelow, LooksBelow, by_context}
use Rattle.spelling.specs.Written.{place_of}
use Rattle.worlds.specs.Rows.{Row}
use Rattle.asking.proofs.Judging.{asked-right, formed, low, reads, table, tree}
use Rattle.asking.proofs.Noting.{Low, Reads, ReadsAll}
use Rattle.asking.specs.Asks.{NamesAsked}

-- a name where no instance has brought the text
named_here : (decls : Declarations) (r : ℕ) (ts : Terms) → named_in decls (place_of 0 0 itselves) r ts ≡ node (ref_head decls r) ts
named_here decls r ts = go (ltb r max_definitions) refl
  where
    go : (b : Bool) → ltb r max_definitions ≡ b → named_in decls (place_of 0 0 itselves) r ts ≡ node (ref_head decls r) ts
    go true e = let i = sym (numbers-at 0 max_definitions r (ltb-true r max_definitions e)) ∙ zero-add r in rw e (ap (λ (x : ℕ). node (defined x) ts) i)
    go false e = rw e refl

module _ (look : Token → ℕ) (refs : List ℕ) (decls : Declarations) where
  token-here : (at : ℕ) (t : Token) (ts : Terms) → (is_name t ≡ true → get_or refs at 0 ≡ look t)
      → token_in (λ i x. look x) decls (place_of 0 0 itselves) at t ts ≡ node (token_head refs decls at t) ts
  token-here at (Parameter i) ts r = ap (λ (x : ℕ). node (param x) ts) (zero-add i)
  token-here at (Bound j) ts r = refl
  token-here at (Name n k) ts r = named_here decls (look (Name n k)) ts ∙ ap (λ (x : ℕ). node (ref_head decls x) ts) (sym (r refl))
  token-here at (InstanceOperator i n k) ts r = named_here decls (look (InstanceOperator i n k)) ts ∙ ap (λ (x : ℕ). node (ref_head decls x) ts) (sym (r refl))
  token-here at (BuiltIn c) ts r = refl
  token-here at (Literal v) ts r = refl

  mutual
    pub term-here : (t : Expr) → Reads look refs t → term_in (λ i x. look x) decls (place_of 0 0 itselves) t ≡ shown refs decls t
    term-here (node h ts) (a, b) =
        token-here h.at h.token (terms_in (λ i x. look x) decls (place_of 0 0 itselves) ts) a
        ∙ ap (node (token_head refs decls h.at h.token)) (terms-here ts b)

    terms-here : (ts : Exprs) → ReadsAll look refs ts
        → terms_in (λ i x. look x) decls (place_of 0 0 itselves) ts ≡ map_trees (λ (h : Placed). token_head refs decls h.at h.token) ts
    terms-here ⟨⟩ r = refl
    terms-here (t ▹ ts) (a, b) = ap₂ ◌▹◌ (term-here t a) (terms-here ts b)

mutual
  looks-low : (look : Token → ℕ) (m : ℕ) (t : Expr) → AllTokens (Low look m) t → LooksBelow m (λ i x. look x) t
  looks-low look m (node h ts) (a, b) = (a, all-low look m ts b)

  all-low : (look : Token → ℕ) (m : ℕ) (ts : Exprs) → AllTokensOf (Low look m) ts → AllLooksBelow m (λ i x. look x) ts
  all-low look m ⟨⟩ a = tt
  all-low look m (t ▹ ts) (a, b) = (looks-low look m t a, all-low look m ts b)

-- Module q is ended; the bytes spell the expression e, which keeps the limits, and which was walked with n parameters: no name is unknown, no
-- argument count wrong.
module _ (file : List ℕ) (fs : List Field) (s : State) (rs : List Row) (v : Store) (c : Counts) (p : Phase) (refs words' : List ℕ)
    (stands : Standing file fs s rs v c p refs words') (q : ℕ) (ended : q < c.modules) (expr : List ℕ) (bytes : Bytes expr) (e : Expression)
    (spelt : expression.read expr ≡ some e) (kept : over_limit e ≡ false) (n r : ℕ)
    (asked : NamesAsked v.names v.facts (codes_of v q) n (expr_at max_nesting expr 0) r) where
  pub text : Expr
  text = (tree file fs s rs v c p refs words' stands q ended expr bytes e spelt kept n r asked).0

  pub text-found : expr_at max_nesting expr 0 ≡ found text (0 + length expr)
  unfolding text
  text-found = (tree file fs s rs v c p refs words' stands q ended expr bytes e spelt kept n r asked).1

  pub text-low : LooksBelow (max_definitions + length (declarations_of fs)) (by_context v.names v.facts (codes_of v q)) text
  unfolding text
  text-low =
      looks-low (number_in v.names v.facts (codes_of v q)) (max_definitions + length (declarations_of fs)) text
      (low file fs s rs v c p refs words' stands q ended expr bytes e spelt kept n r asked)

  pub text-term : asked.unknown ≡ false
      → term_in (by_context v.names v.facts (codes_of v q)) (declarations_of fs) (place_of 0 0 itselves) text ≡ resolve s (module_no s q).context e
  unfolding text
  text-term known =
      term-here (number_in v.names v.facts (codes_of v q)) (table file fs s rs v c p refs words' stands q ended expr bytes e spelt kept n r asked)
      (declarations_of fs) text (reads file fs s rs v c p refs words' stands q ended expr bytes e spelt kept n r asked)
      ∙ (asked-right file fs s rs v c p refs words' stands q ended expr bytes e spelt kept n r asked).resolved known text (0 + length expr) text-found

  pub text-formed : asked.unknown ≡ false → asked.miscounted ≡ false → WellFormed (arities_of (templates_of s)) n 0 (resolve s (module_no s q).context e)
  text-formed known counted = formed file fs s rs v c p refs words' stands q ended expr bytes e spelt kept n r asked known counted
