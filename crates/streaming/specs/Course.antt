-- Where a run stands: what is written and what is pending are together the string of a term that means the same.
use Rattle.std.specs.Prelude.{Bool, false, true, List, [], ◌++◌, ◌∷◌, ◌≡◌, ℕ, suc, ◌+◌, ◌*◌, ◌/◌, ◌%◌, ◌≤◌, ◌<◌, min, get_or, length}
use Rattle.symbols.specs.Spell.{max_params, spell}
use Rattle.symbols.specs.Symbol.{Spelt, Symbol, call, fill, size}
use Rattle.strings.specs.Read.{string_at}
use Rattle.rewriting.specs.Ends.{last_from}
use Rattle.rewriting.specs.Filling.{arguments_of}
use Rattle.rewriting.specs.Going.{Kept}
use Rattle.rewriting.specs.Rewritten.{Task}
use Rattle.shifting.specs.Part.{Part}
use Rattle.shifting.specs.Shift.{Below, Closes, noted, shift, shift_each}
use Rattle.cells.specs.Table.{tally}
use Rattle.cells.specs.Words.{word_at}
use Rattle.streaming.specs.declared.Now.{Now}
use Rattle.cells.specs.declared.Layout.{Layout}

-- A call that has been entered and not left: its number and where the part of the string ends that it stands in, as the table keeps them; what
-- is open at it of the string and of templates; its arguments; of the template the brackets open and the rest, which begins at tp; and the
-- rest of the part.
pub record Frame : Type 0 where
  pub rank : ℕ
  pub e : ℕ
  pub env : List ℕ
  pub base : ℕ
  pub args : List (List Symbol)
  pub unclosed : ℕ
  pub tp : ℕ
  pub rest : List Symbol
  pub after : List Symbol

-- what is still to be written of the calls entered, the innermost first
abbrev pub pending_of : Frame → List Symbol
pending_of f = fill (shift_each f.env f.base f.args) f.unclosed f.rest ++ shift f.env f.base f.after

abbrev pub pending : List Frame → List Symbol
pending [] = []
pending (f ∷ fs) = pending_of f ++ pending fs

abbrev pub top_of : List Frame → ℕ
top_of [] = 0
top_of (f ∷ fs) = suc f.rank

abbrev pub env_of : List Frame → List ℕ
env_of [] = []
env_of (f ∷ fs) = f.env

abbrev pub base_of : List Frame → ℕ
base_of [] = 0
base_of (f ∷ fs) = f.base + f.unclosed

-- what of the string is open around: of the part's own brackets as many as it closes, and those at the call
pub record Around (E : List ℕ) (depth : ℕ) (fs : List Frame) : Type 0 where
  pub inner : List ℕ
  pub split : E ≡ inner ++ env_of fs
  pub deep : length inner ≡ depth

-- A frame is right: fs are the frames around it.
pub record Link (x : Task) (a template : List ℕ) (tlen : ℕ) (shapes : List ℕ) (n : ℕ) (l : Layout) (known : ℕ) (table : List ℕ) (fs : List Frame) (f : Frame) : Type 0 where
  pub low : f.rank < known
  pub above : top_of fs ≤ f.rank
  -- the call in the string
  pub start : List Symbol
  pub more : List Symbol
  pub called : string_at a 0 (length a) ≡ start ++ (call n ∷ more)
  pub ranked : tally n start ≡ f.rank
  pub given : f.args ≡ arguments_of a shapes (get_or shapes n 0) (size start + 2)
  -- the template's rest
  pub passed : List Symbol
  pub text : spell x.sense.shape x.text ≡ passed ++ f.rest
  pub read : Spelt template f.tp f.rest tlen
  pub closes : Closes f.unclosed f.rest
  -- the string's rest
  pub depth : ℕ
  pub part : Part x a (last_from a shapes max_params (get_or shapes n 0) (size start + 2)) f.e depth f.after
  pub around : Around f.env depth fs
  pub based : f.base ≡ base_of fs
  pub below : Below f.base f.env
  -- what the table keeps
  pub kept_end : word_at table (f.rank * l.stride + l.places + 1) ≡ f.e
  pub kept_top : word_at table (f.rank * l.stride + l.places + 2) / 2048 ≡ top_of fs

-- all frames are, and the table keeps where their templates go on
abbrev pub Chain : Task → List ℕ → List ℕ → ℕ → List ℕ → ℕ → Layout → ℕ → List ℕ → List Frame → Type 0
Chain x a template tlen shapes n l known table [] = Unit {0}
Chain x a template tlen shapes n l known table (f ∷ fs) =
    Link x a template tlen shapes n l known table fs f × (word_at table (f.rank * l.stride + l.places + 2) % 2048 ≡ f.tp)
    × Chain x a template tlen shapes n l known table fs

-- In the string.
pub record InString (x : Task) (a template : List ℕ) (tlen : ℕ) (shapes : List ℕ) (n : ℕ) (l : Layout) (known : ℕ) (table env out : List ℕ) (s : Now) : Type 0 where
  pub kept : Kept x
  pub gs : List Symbol
  pub cs : List Symbol
  pub fs : List Frame
  pub split : spell x.sense.shape kept.term ≡ gs ++ (shift (noted env s.d) s.b cs ++ pending fs)
  pub done : Spelt out 0 gs s.q
  pub chain : Chain x a template tlen shapes n l known table fs
  pub top : s.top ≡ top_of fs
  pub above : top_of fs ≤ s.rank
  pub depth : ℕ
  pub part : Part x a s.p s.e depth cs
  pub ranked : s.rank ≡ min known (tally n part.start)
  pub around : Around (noted env s.d) depth fs
  pub based : s.b ≡ base_of fs
  pub below : Below s.b (noted env s.d)

-- In the template, of the call f.
pub record InTemplate (x : Task) (a template : List ℕ) (tlen : ℕ) (shapes : List ℕ) (n : ℕ) (l : Layout) (known : ℕ) (table env out : List ℕ) (s : Now) : Type 0 where
  pub kept : Kept x
  pub gs : List Symbol
  pub f : Frame
  pub fs : List Frame
  pub split : spell x.sense.shape kept.term ≡ gs ++ pending (f ∷ fs)
  pub done : Spelt out 0 gs s.q
  pub link : Link x a template tlen shapes n l known table fs f
  pub chain : Chain x a template tlen shapes n l known table fs
  pub top : s.top ≡ suc f.rank
  pub tp : s.tp ≡ f.tp
  pub env_here : noted env s.d ≡ f.env
  pub based : s.b ≡ f.base + f.unclosed

abbrev pub Underway : Bool → (x : Task) (a template : List ℕ) (tlen : ℕ) (shapes : List ℕ) (n : ℕ) (l : Layout) (known : ℕ) (table env out : List ℕ) (s : Now) → Type 0
Underway true x a template tlen shapes n l known table env out s = InTemplate x a template tlen shapes n l known table env out s
Underway false x a template tlen shapes n l known table env out s = InString x a template tlen shapes n l known table env out s
