-- The text of a definition, or of a substitute, as a term in the world that a chain of instances has brought it to: what calls stand for.
-- Numbers below 256 call definitions. Along the chain of one definition, 256 + 64 · l + e calls what stands for declaration e where l
-- instances have been entered.
use Rattle.std.specs.Prelude.{cond, List, ℕ, zero, suc, ◌+◌, ◌-◌, ◌*◌, ltb, get_or}
use Rattle.limits.specs.Limits.{max_declarations, max_definitions}
use Rattle.theory.specs.Expand.{params_from}
use Rattle.theory.specs.Term.{Term, Terms, bound, builtin, declared, defined, leaf, literal, param}
use Rattle.theory.specs.Tree.{◌▹◌, join, node, ⟨⟩}
use Rattle.tokens.specs.Expr.{Expr, Exprs, Placed}
use Rattle.tokens.specs.declared.Token.{Token}
use Rattle.tokens.specs.declared.Token.TheVariants.{BuiltIn, Bound, InstanceOperator, Literal, Name, Parameter}
use Rattle.texts.specs.Text.{Declarations, no_declaration}

-- the number that calls what stands for declaration e, r being 256 + e
abbrev pub stand_in : ℕ → ℕ → ℕ
stand_in l r = r + max_declarations * l

-- How a text is brought: how many instances have been entered, how many parameters they have, and which definition each number of the text's
-- module is.
pub record Setting : Type 0 where
  pub level : ℕ
  pub outer : ℕ
  pub numbers : List ℕ

-- a call with the instances' parameters put before its arguments
abbrev pub called : ℕ → ℕ → Terms → Term
called outer n ts = node (defined n) (join (params_from 0 outer) ts)

-- a declared name: itself where no instance has brought the text
abbrev pub declared_in : Declarations → ℕ → ℕ → ℕ → Terms → Term
declared_in decls zero outer r ts = let d = get_or decls (r - max_definitions) no_declaration in node (declared d.0 d.1) ts
declared_in decls (suc l) outer r ts = called outer (stand_in (suc l) r) ts

-- what a name was resolved to, r, over its arguments
abbrev pub named_in : Declarations → Setting → ℕ → Terms → Term
named_in decls P r ts = cond (ltb r max_definitions) (called P.outer (get_or P.numbers r 0) ts) (declared_in decls P.level P.outer r ts)

-- a token over its arguments; `look` says what a name at a position was resolved to
abbrev pub token_in : (ℕ → Token → ℕ) → Declarations → Setting → ℕ → Token → Terms → Term
token_in look decls P at (Parameter i) ts = node (param (P.outer + i)) ts
token_in look decls P at (Bound j) ts = node (bound j) ts
token_in look decls P at (Name n k) ts = named_in decls P (look at (Name n k)) ts
token_in look decls P at (InstanceOperator i n k) ts = named_in decls P (look at (InstanceOperator i n k)) ts
token_in look decls P at (BuiltIn c) ts = node (builtin c) ts
token_in look decls P at (Literal v) ts = node (leaf (literal v)) ts

abbrev mutual
  pub term_in : (ℕ → Token → ℕ) → Declarations → Setting → Expr → Term
  term_in look decls P (node h ts) = token_in look decls P h.at h.token (terms_in look decls P ts)

  pub terms_in : (ℕ → Token → ℕ) → Declarations → Setting → Exprs → Terms
  terms_in look decls P ⟨⟩ = ⟨⟩
  terms_in look decls P (t ▹ ts) = term_in look decls P t ▹ terms_in look decls P ts

-- by the table beside the file
abbrev pub by_refs : List ℕ → ℕ → Token → ℕ
by_refs refs at t = get_or refs at 0

-- "A declared name without a substitution stands for itself": what its name was resolved to, r, at its own k parameters after the p of its
-- instance
abbrev pub implied_in : Declarations → Setting → ℕ → ℕ → ℕ → Term
implied_in decls P p k r = named_in decls P r (params_from (P.outer + p) k)
