-- Tokens and trees by position, as the rules have them. Definitions only.
use Rattle.std.specs.Prelude.{ℕ, eqb}
use Rattle.std.proofs.Math.Option.{Option, none, some}
use Rattle.theory.specs.Tree.{Trees, node, ⟨⟩, ◌▹◌}
use Rattle.rules.specs.Bytes.{when}
use Rattle.rules.specs.Expression.{Token, parameter, bound_variable, operator, instance_operator, built_in, numeral, Expression}
use Rattle.tokens.specs.Expr.{Expr, Exprs, Found, found, none as nothing}
use Rattle.tokens.specs.declared.Token.{Token as PlacedToken}
use Rattle.tokens.specs.declared.Token.TheVariants.{Parameter, Bound, Name, InstanceOperator, BuiltIn, Literal}

-- the same token, as the rules have it and as the code does
abbrev pub as_token : PlacedToken → Token
as_token (Parameter i) = parameter i
as_token (Bound j) = bound_variable j
as_token (Name n k) = operator n k
as_token (InstanceOperator i f k) = instance_operator i f k
as_token (BuiltIn c) = built_in c
as_token (Literal v) = numeral v

abbrev pub as_placed : Token → PlacedToken
as_placed (parameter i) = Parameter i
as_placed (bound_variable j) = Bound j
as_placed (operator n k) = Name n k
as_placed (instance_operator i f k) = InstanceOperator i f k
as_placed (built_in c) = BuiltIn c
as_placed (numeral v) = Literal v

-- the tree without its positions
abbrev mutual
  pub as_tree : Expr → Expression
  as_tree (node h ts) = node (as_token h.token) (as_trees ts)

  pub as_trees : Exprs → Trees Token
  as_trees ⟨⟩ = ⟨⟩
  as_trees (t ▹ ts) = as_tree t ▹ as_trees ts

-- P holds of every token of a tree and its position
abbrev mutual
  pub AllTokens : (ℕ → PlacedToken → Type 0) → Expr → Type 0
  AllTokens P (node h ts) = P h.at h.token × AllTokensOf P ts

  pub AllTokensOf : (ℕ → PlacedToken → Type 0) → Exprs → Type 0
  AllTokensOf P ⟨⟩ = Unit {0}
  AllTokensOf P (t ▹ ts) = AllTokens P t × AllTokensOf P ts

-- the tree that stands at the start of a list of l bytes, if it ends where the list does
abbrev pub filling : ℕ → Found → Option Expression
filling l (found t e) = when (eqb e l) (some (as_tree t))
filling l nothing = none
