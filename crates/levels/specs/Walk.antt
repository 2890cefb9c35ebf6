-- What the walk over a text adds to a form: at each node, the node's own level under the label of its place. Definitions only.
use Rattle.std.specs.Prelude.{◌≡◌, Option, None, Some, cond, List, ℕ, ◌+◌, ◌-◌, ◌*◌, ◌/◌, ◌^◌, ◌≤◌, ◌<◌, eqb, length}
use Rattle.std.specs.Int.Bits.{bit_or}
use Rattle.limits.specs.Limits.{max_nesting}
use Rattle.theory.specs.Level.{IsLevel}
use Rattle.theory.specs.Lists.{All, param_levels}
use Rattle.rows.specs.Rows.{arity_of, no_code}
use Rattle.tokens.specs.Token.{arguments_of, written_of}
use Rattle.tokens.specs.Expr.{Expr, Found, Founds, expr_at, found, founds, none, nones, several}
use Rattle.tokens.specs.Fold.{fold, folds}
use Rattle.tokens.specs.declared.Token.{Token}
use Rattle.tokens.specs.declared.Token.TheVariants.{BuiltIn, InstanceOperator, Name}
use Rattle.texts.specs.Text.{scope, token_level}
use Rattle.forms.specs.Labels.{coded, under, whole}
use Rattle.forms.specs.Forms.{GivesBits, bits_at, gives, level_at, width}
use Rattle.levels.specs.Tables.{Names, levels_at, scene_of}
use Rattle.levels.specs.declared.steps.Step.{Step}
use Rattle.levels.specs.declared.Under.{Under}

-- The form `more` is `form` and the level of what is found under label l; `next` is the position after it.
unfoldable pub Adds : Names → (bits l form : ℕ) → Found → (more next : ℕ) → Type 0
Adds N bits l form (found t n) more next =
    (next ≡ n) × GivesBits more (λ v. bit_or (bits_at form v) (under l (coded (fold (levels_at N v) bits t))))
Adds N bits l form none more next = Unit {0}

-- the same of an argument list, each argument under its label inside that of the place
unfoldable pub AddsAll : Names → Under → (form : ℕ) → Founds → (more next : ℕ) → Type 0
AddsAll N u form (founds ts n) more next =
    (next ≡ n) × GivesBits more (λ v. bit_or (bits_at form v) (under u.label (gives u.labels (folds (levels_at N v) u.around u.within ts))))
AddsAll N u form nones more next = Unit {0}

-- the level of a token: a base, and what its labels make of its arguments' levels
unfoldable pub Says : Names → Token → (at bits : ℕ) → (List ℕ → ℕ) → ℕ → Type 0
Says N t at bits base labels =
    (v ls : List ℕ) → length v ≤ width → All IsLevel v → length ls ≡ arguments_of t → All IsLevel ls
    → coded (token_level N.refs (scene_of N.numbers N.words) N.outer v bits at t ls) ≡ bit_or (base v) (gives labels ls)

-- a step over the token t under label l: its base is added
pub record Stepped (N : Names) (t : Token) (at bits l f x : ℕ) (r : Step) : Type 0 where
  pub count : r.count ≡ arguments_of t
  pub inner : r.inner ≡ scope t bits
  pub low : r.inner ≤ bits * 2 + 1
  pub next : r.next ≡ x
  pub base : List ℕ → ℕ
  pub form : GivesBits r.form (λ v. bit_or (bits_at f v) (under l (base v)))
  pub says : Says N t at bits base r.labels

-- a step with nothing more to come
pub record Ended (bits f x : ℕ) (r : Step) : Type 0 where
  pub count : r.count ≡ 0
  pub inner : r.inner ≡ bits
  pub labels : r.labels ≡ 0
  pub form : r.form ≡ f
  pub next : r.next ≡ x

-- a step over a token of form w, the first P labels of which are those of the instances' parameters
pub record Headed (w P k e l f x : ℕ) (r : Step) : Type 0 where
  pub count : r.count ≡ k
  pub inner : r.inner ≡ e
  pub labels : r.labels ≡ w / 8 / 8 ^ P
  pub form : GivesBits r.form (λ v. bit_or (bits_at f v) (under l (bit_or (whole w) (gives (w / 8) (param_levels 0 P v)))))
  pub next : r.next ≡ x

-- the bound variables' levels inside a code of this kind (`binder_kind` of crate rows)
unfoldable pub inner_bits : ℕ → ℕ → ℕ
inner_bits kind bits = cond (eqb kind 0) bits (bits * 2 + (kind - 1))

-- a token whose level depends on no name, wherever it stands
pub record Plain (P : ℕ) (t : Token) (bits l f x : ℕ) (r : Step) : Type 0 where
  pub anywhere : (N : Names) (at : ℕ) → N.outer ≡ P → Stepped N t at bits l f x r

-- a name of k arguments, of either kind
pub record Named (N : Names) (k at bits l f x : ℕ) (r : Step) : Type 0 where
  pub name : (n : ℕ) → Stepped N (Name n k) at bits l f x r
  pub operator : (i n : ℕ) → Stepped N (InstanceOperator i n k) at bits l f x r

-- a built-in, or none of that code
abbrev pub Built : (code bits l f x : ℕ) → Option Step → Type 0
Built code bits l f x None = arity_of code ≡ no_code
Built code bits l f x (Some r) = (arity_of code ≡ no_code → ⊥) × ((N : Names) (at : ℕ) → Stepped N (BuiltIn code) at bits l f x r)

-- a code that does not exist
abbrev pub Lost : Token → Type 0
Lost t = (arguments_of t ≡ no_code) × (written_of t ≡ 0)

-- a step over any token
abbrev pub Tokened : Names → Token → (at bits l f x : ℕ) → Option Step → Type 0
Tokened N t at bits l f x None = Lost t
Tokened N t at bits l f x (Some r) = Stepped N t at bits l f x r

-- what the arguments of a token inherit
abbrev pub inside : ℕ → ℕ → Step → Under
inside bits l r = record { around = bits; within = r.inner; label = l; labels = r.labels }

-- A step over what stands at a position: what its arguments add, after what it adds itself, is what the expression there adds.
pub record Passed (N : Names) (s : List ℕ) (at bits l form : ℕ) (r : Step) : Type 0 where
  pub low : r.inner ≤ bits * 2 + 1
  pub over : (n : ℕ) → (n ≡ 0 → ⊥) → (more next : ℕ)
      → AddsAll N (inside bits l r) r.form (several (expr_at (n - 1) s) r.next r.count) more next
      → Adds N bits l form (expr_at n s at) more next

-- such a step, or none, where no expression stands
abbrev pub Steps : Names → (s : List ℕ) → (at bits l form : ℕ) → Option Step → Type 0
Steps N s at bits l form None = (n : ℕ) → expr_at n s at ≡ none
Steps N s at bits l form (Some r) = Passed N s at bits l form r

-- as many levels of bound variables may still be put before these as there is nesting left
unfoldable pub Room : ℕ → ℕ → Type 0
Room nest bits = (nest ≤ max_nesting) × (bits < 2 ^ (63 - nest))

-- so of what arguments inherit, and the label is one
pub record Fits (nest : ℕ) (u : Under) : Type 0 where
  pub around : Room nest u.around
  pub within : Room nest u.within
  pub label : u.label < 8

-- the form gives the level of the text at a position, at all levels, 0 to 4, of the parameters that a form has room for
pub record TextForm (N : Names) (s : List ℕ) (at form : ℕ) : Type 0 where
  pub level : (t : Expr) (e : ℕ) → expr_at max_nesting s at ≡ found t e → (v : List ℕ) → length v ≤ width → All IsLevel v
      → level_at form v ≡ fold (levels_at N v) 0 t
