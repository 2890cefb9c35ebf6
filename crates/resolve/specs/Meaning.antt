-- What the numbers mean in a state of the rules. Definitions only.
use Rattle.std.specs.Prelude.{List, ◌≡◌, ℕ, ◌<◌, get_or, length}
use Rattle.std.proofs.Math.Option.{Option, none, some}
use Rattle.theory.specs.Term.{Head, param, bound, declared, defined, builtin, leaf, kind_arity}
use Rattle.rules.specs.State.{Entry, State, declares, defines, instances, params_of}
use Rattle.texts.specs.Text.{Declarations, no_declaration, ref_head}
use Rattle.context.specs.Entries.{field_code}
use Rattle.store.specs.Store.{first_at}
use Rattle.store.specs.declared.Facts.{Facts}
use Rattle.std.specs.Prelude.{Option as Answer, Some, None}
use Rattle.resolve.specs.declared.Look.{Look}

-- the number that is kept of a declared name finds it among the declarations
abbrev pub Numbered : List Facts → Declarations → Entry → Type 0
Numbered facts decls (declares x kind field) =
    (first_at facts (field_code field) < length decls) × (get_or decls (first_at facts (field_code field)) no_declaration ≡ (kind, x))
Numbered facts decls (defines x g) = Unit {0}
Numbered facts decls (instances x field brings) = Unit {0}

-- how many arguments a name takes
abbrev pub head_arity : State → Head → ℕ
head_arity s (param i) = 0
head_arity s (bound j) = 0
head_arity s (declared kind x) = kind_arity kind
head_arity s (defined g) = params_of s g
head_arity s (builtin c) = 0
head_arity s (leaf l) = 0

-- an answer is right: the head that it stands for is what the rules find, with its argument count; or the rules find none
abbrev pub Means : State → Declarations → Answer Look → Option Head → Type 0
Means s decls (Some l) h = (h ≡ some (ref_head decls l.number)) × (l.arity ≡ head_arity s (ref_head decls l.number))
Means s decls None h = h ≡ none
