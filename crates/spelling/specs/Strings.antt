-- What the operations on texts promise.
use Rattle.std.specs.Prelude.{Bool, false, true, List, ◌≡◌, ℕ, ◌+◌, ◌≤◌, ◌<◌, leb, get_or, length}
use Rattle.limits.specs.Limits.{max_arity, max_declarations, max_definitions, max_nesting}
use Rattle.theory.specs.Lists.{All}
use Rattle.theory.specs.Tree.{◌▹◌, node, ⟨⟩}
use Rattle.tokens.specs.Expr.{Expr, Exprs, expr_at, found}
use Rattle.tokens.specs.declared.Token.{Token}
use Rattle.texts.specs.Noted.{is_name}
use Rattle.texts.specs.Text.{Declarations, no_declaration}
use Rattle.symbols.specs.Symbol.{Spelt, Symbol, begin, bytes_of, call, code, end, name, number, par, size, var}
use Rattle.symbols.specs.Spell.{shape_limit, spell}
use Rattle.text_levels.proofs.OwnWorld.{RefsBelow}
use Rattle.standing.specs.Standing.{itselves}
use Rattle.unfolding.specs.InWorld.{by_refs, implied_in, term_in}
use Rattle.resolve.specs.Walk.{number_in}
use Rattle.spelling.specs.Written.{place_of}
use Rattle.store.specs.declared.Facts.{Facts}

-- the shapes of a table
abbrev pub shapes_of : List ℕ → ℕ → ℕ
shapes_of shapes n = get_or shapes n 0

abbrev pub ShapesFit : List ℕ → Type 0
ShapesFit shapes = (n : ℕ) → get_or shapes n 0 < shape_limit

-- every number takes two bytes
abbrev pub NumbersFit : List ℕ → Type 0
NumbersFit l = (i : ℕ) → get_or l i 0 < 65536

-- the store holds the declarations' names
abbrev pub NamesShown : List ℕ → List ℕ → Declarations → Type 0
NamesShown names declared decls = (d : ℕ) → d < length decls → get_or names (get_or declared d 0) 0 ≡ (get_or decls d no_declaration).1

-- what every name of a text was resolved to is below m
abbrev mutual
  pub LooksBelow : ℕ → (ℕ → Token → ℕ) → Expr → Type 0
  LooksBelow m look (node h ts) = (is_name h.token ≡ true → look h.at h.token < m) × AllLooksBelow m look ts

  pub AllLooksBelow : ℕ → (ℕ → Token → ℕ) → Exprs → Type 0
  AllLooksBelow m look ⟨⟩ = Unit {0}
  AllLooksBelow m look (t ▹ ts) = LooksBelow m look t × AllLooksBelow m look ts

-- every byte of a string is one
abbrev pub Bytes : List Symbol → Type 0
Bytes gs = All (λ b. b < 256) (bytes_of gs)

-- a parameter and a call that a string's bytes can hold
abbrev pub narrow : Symbol → Type 0
narrow (par i) = i < 256
narrow (var j) = Unit {0}
narrow (name x k) = Unit {0}
narrow (code c) = Unit {0}
narrow (number v) = Unit {0}
narrow (call n) = n < 1280
narrow begin = Unit {0}
narrow end = Unit {0}

abbrev pub Narrow : List Symbol → Type 0
Narrow gs = All narrow gs

-- the string stands at the start of the memory, or there was no room for it
pub record Spells (gs : List Symbol) (out : List ℕ) (room : ℕ) (fits : Bool) (len : ℕ) : Type 0 where
  pub spelt : fits ≡ true → Spelt out 0 gs len × (len ≤ room)
  pub short : fits ≡ false → room < size gs

-- Two bytes of a text have at most so many of its string: a name of four may become a call and the instances' parameters, of two bytes each.
abbrev pub growth : ℕ
growth = 1 + max_arity

-- the string of the text at a position
pub record TextString (s refs names declared numbers shapes : List ℕ) (at level outer : ℕ) (out : List ℕ) (room : ℕ) (fits : Bool) (len : ℕ) : Type 0 where
  pub told : fits ≡ leb len room
  pub string : (decls : Declarations) (t : Expr) (e : ℕ) → expr_at max_nesting s at ≡ found t e → RefsBelow (max_definitions + length decls) refs t
      → length decls ≤ max_declarations → NamesShown names declared decls → ShapesFit shapes → Narrow (spell (shapes_of shapes) (term_in (by_refs refs) decls (place_of level outer numbers) t))
      → Spells (spell (shapes_of shapes) (term_in (by_refs refs) decls (place_of level outer numbers) t)) out room fits len

-- the string of what stands for a declared name where nothing is written: what its name was resolved to, r
pub record ImpliedString (names declared numbers shapes : List ℕ) (r level outer p k : ℕ) (out : List ℕ) (room : ℕ) (fits : Bool) (len : ℕ) : Type 0 where
  pub string : (decls : Declarations) → r < max_definitions + length decls → length decls ≤ max_declarations → NamesShown names declared decls → ShapesFit shapes
      → Narrow (spell (shapes_of shapes) (implied_in decls (place_of level outer numbers) p k r))
      → Spells (spell (shapes_of shapes) (implied_in decls (place_of level outer numbers) p k r)) out room fits len

-- what a name means in a context given by its codes
abbrev pub by_context : List ℕ → List Facts → List ℕ → ℕ → Token → ℕ
by_context names facts cs at t = number_in names facts cs t

-- the string of the expression that bytes begin with, in the context of the codes cs
pub record QueryString (expr names : List ℕ) (facts : List Facts) (cs declared shapes : List ℕ) (out : List ℕ) (room : ℕ) (fits : Bool) (len : ℕ) : Type 0 where
  pub string : (decls : Declarations) (t : Expr) (e : ℕ) → expr_at max_nesting expr 0 ≡ found t e → LooksBelow (max_definitions + length decls) (by_context names facts cs) t
      → length decls ≤ max_declarations → NamesShown names declared decls → ShapesFit shapes → Narrow (spell (shapes_of shapes) (term_in (by_context names facts cs) decls (place_of 0 0 itselves) t))
      → Spells (spell (shapes_of shapes) (term_in (by_context names facts cs) decls (place_of 0 0 itselves) t)) out room fits len
