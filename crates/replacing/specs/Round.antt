-- What a run promises, and a round.
use Rattle.std.specs.Prelude.{Err, None, Ok, Option, Result, Some, false, List, ◌≡◌, ℕ, ◌≤◌, eqb, length}
use Rattle.theory.specs.Lists.{any}
use Rattle.symbols.specs.Spell.{spell}
use Rattle.symbols.specs.Symbol.{calls}
use Rattle.rewriting.specs.Going.{Over}
use Rattle.rewriting.specs.Rewritten.{Posed, Replaced, Task}
use Rattle.std.proofs.Common.{Break, Continue, ControlFlow}
use Rattle.streaming.specs.Course.{Underway}
use Rattle.streaming.specs.Step.{Read, Sane, Steps, Written}
use Rattle.streaming.specs.declared.Now.{Now}
use Rattle.streaming.specs.declared.Stepped.{Stepped}
use Rattle.streaming.specs.declared.Fault.{Fault}
use Rattle.streaming.specs.declared.Fault.TheVariants.{Lost, Short}
use Rattle.cells.specs.Table.{Noted}
use Rattle.cells.specs.declared.Layout.{Layout}

-- a step, whatever the shapes are
pub record StepsIn (a template : List ℕ) (tlen n : ℕ) (l : Layout) (known : ℕ) (table env out : List ℕ) (s : Now) (table' env' out' : List ℕ) (r : Result Stepped Fault) : Type 0 where
  pub steps : (shapes : List ℕ) → Steps a template tlen shapes n l known s.inside table env out s table' env' out' r

-- the string of a term that means the same is written, so many bytes; or it does not fit; or nothing is known
abbrev pub Comes : Task → List ℕ → List ℕ → Result ℕ Fault → Type 0
Comes x out out' (Ok len) = Written x out' len
Comes x out out' (Err Short) = Over x (length out)
Comes x out out' (Err Lost) = Unit {0}

abbrev pub Within : List ℕ → Result ℕ Fault → Type 0
Within out (Ok len) = len ≤ length out
Within out (Err f) = Unit {0}

-- the calls that the table has words for are replaced
pub record Ran (a template : List ℕ) (tlen : ℕ) (shapes : List ℕ) (n : ℕ) (l : Layout) (known : ℕ) (table out out' : List ℕ) (r : Result ℕ Fault) : Type 0 where
  pub within : Within out r
  pub comes : (x : Task) → Read x a template tlen shapes n l known table → Comes x out out' r

pub record RanOn (a template : List ℕ) (tlen n : ℕ) (l : Layout) (known : ℕ) (table out out' : List ℕ) (r : Result ℕ Fault) : Type 0 where
  pub ran : (shapes : List ℕ) → Ran a template tlen shapes n l known table out out' r

-- after so many steps
pub record Running (a template : List ℕ) (tlen n : ℕ) (l : Layout) (known : ℕ) (table₀ env₀ out₀ table env out : List ℕ) (s : Now) : Type 0 where
  pub wide : length table ≡ length table₀
  pub deep : length env ≡ length env₀
  pub long : length out ≡ length out₀
  pub sane : Sane env out s
  pub on : (shapes : List ℕ) (x : Task) → Read x a template tlen shapes n l known table₀
      → Read x a template tlen shapes n l known table × Underway s.inside x a template tlen shapes n l known table env out s

-- the calls that are noted in the table are replaced
pub record NotedRan (a template : List ℕ) (tlen : ℕ) (shapes : List ℕ) (n : ℕ) (l : Layout) (known : ℕ) (table out out' : List ℕ) (r : Result ℕ Fault) : Type 0 where
  pub within : Within out r
  pub comes : Noted a n l known table → (x : Task) → Posed a (length a) n template tlen shapes x → Comes x out out' r

-- a round: none is left, or some are replaced
abbrev pub RoundComes : ℕ → Task → List ℕ → List ℕ → Result (Option ℕ) Fault → Type 0
RoundComes n x out out' (Ok None) = any (calls (eqb n)) (spell x.sense.shape x.term) ≡ false
RoundComes n x out out' (Ok (Some len)) = Written x out' len
RoundComes n x out out' (Err Short) = Over x (length out)
RoundComes n x out out' (Err Lost) = Unit {0}

abbrev pub RoundWithin : List ℕ → Result (Option ℕ) Fault → Type 0
RoundWithin out (Ok None) = Unit {0}
RoundWithin out (Ok (Some len)) = len ≤ length out
RoundWithin out (Err f) = Unit {0}

pub record Rounded (a template : List ℕ) (tlen : ℕ) (shapes : List ℕ) (n : ℕ) (out out' : List ℕ) (r : Result (Option ℕ) Fault) : Type 0 where
  pub within : RoundWithin out r
  pub comes : (x : Task) → Posed a (length a) n template tlen shapes x → RoundComes n x out out' r

-- after a round: a string that means the same, or the answer
abbrev pub TurnComes : ℕ → Task → List ℕ → ControlFlow (Option ℕ) ℕ → Type 0
TurnComes n x after (Continue len) = Written x after len
TurnComes n x after (Break answer) = Replaced n x after answer

abbrev pub TurnWithin : List ℕ → ControlFlow (Option ℕ) ℕ → Type 0
TurnWithin before (Continue len) = len ≤ length before
TurnWithin before (Break answer) = (size : ℕ) → answer ≡ Some size → size ≤ length before

pub record TurnedTo (before : List ℕ) (size n : ℕ) (template : List ℕ) (tlen : ℕ) (shapes after : List ℕ) (r : ControlFlow (Option ℕ) ℕ) : Type 0 where
  pub long : length after ≡ length before
  pub within : TurnWithin before r
  pub comes : (x : Task) → Posed before size n template tlen shapes x → TurnComes n x after r

-- after some rounds
pub record Rounding (before : List ℕ) (len n : ℕ) (template : List ℕ) (tlen : ℕ) (shapes a : List ℕ) (size : ℕ) : Type 0 where
  pub long : length a ≡ length before
  pub within : size ≤ length before
  pub on : (x : Task) → Posed before len n template tlen shapes x → Written x a size
