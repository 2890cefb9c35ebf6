-- What a step promises.
use Rattle.std.specs.Prelude.{Err, Ok, Result, Bool, false, true, List, ◌≡◌, ℕ, ◌^◌, ◌≤◌, ◌<◌, get_or, length}
use Rattle.symbols.specs.Spell.{spell}
use Rattle.symbols.specs.Symbol.{Spelt}
use Rattle.rewriting.specs.Going.{Kept, Over}
use Rattle.rewriting.specs.Rewritten.{Posed, Task}
use Rattle.streaming.specs.Course.{Underway}
use Rattle.rewriting.specs.Ends.{places_of}
use Rattle.cells.specs.Table.{Sized, Tabled}
use Rattle.streaming.specs.declared.Now.{Now}
use Rattle.streaming.specs.declared.Fault.{Fault}
use Rattle.streaming.specs.declared.Stepped.{Stepped}
use Rattle.streaming.specs.declared.Stepped.TheVariants.{Finished, On}
use Rattle.streaming.specs.declared.Fault.TheVariants.{Lost, Short}
use Rattle.cells.specs.declared.Layout.{Layout}

-- the numbers of a run are small enough to count with
pub record Sane (env out : List ℕ) (s : Now) : Type 0 where
  pub written : s.q ≤ length out
  pub bounded : s.d ≤ length env
  pub few : s.b ≤ 65536
  pub place : s.p < 2 ^ 33
  pub end : s.e < 2 ^ 32
  pub rank : s.rank < 2 ^ 14
  pub top : s.top < 2 ^ 21
  pub inside : s.tp < 2 ^ 12

abbrev pub SaneStep : List ℕ → List ℕ → Result Stepped Fault → Type 0
SaneStep env out (Ok (On s)) = Sane env out s
SaneStep env out (Ok (Finished len)) = len ≤ length out
SaneStep env out (Err Short) = Unit {0}
SaneStep env out (Err Lost) = Unit {0}

-- what a run reads: the string of a task, its template, and the table of its calls
pub record Read (x : Task) (a template : List ℕ) (tlen : ℕ) (shapes : List ℕ) (n : ℕ) (l : Layout) (known : ℕ) (table : List ℕ) : Type 0 where
  pub posed : Posed a (length a) n template tlen shapes x
  pub places : l.places ≡ places_of (get_or shapes n 0)
  pub sized : Sized l (length table)
  pub tabled : Tabled a shapes n l known table

-- all is written: the string of a term that means the same
pub record Written (x : Task) (out : List ℕ) (len : ℕ) : Type 0 where
  pub kept : Kept x
  pub spelt : Spelt out 0 (spell x.sense.shape kept.term) len

abbrev pub Comes : (x : Task) (a template : List ℕ) (tlen : ℕ) (shapes : List ℕ) (n : ℕ) (l : Layout) (known : ℕ) (table env out : List ℕ) → Result Stepped Fault → Type 0
Comes x a template tlen shapes n l known table env out (Ok (On s)) =
    Read x a template tlen shapes n l known table × Underway s.inside x a template tlen shapes n l known table env out s
Comes x a template tlen shapes n l known table env out (Ok (Finished len)) = Written x out len
Comes x a template tlen shapes n l known table env out (Err Short) = Over x (length out)
Comes x a template tlen shapes n l known table env out (Err Lost) = Unit {0}

-- a step from s, the memory before and after it
pub record Steps (a template : List ℕ) (tlen : ℕ) (shapes : List ℕ) (n : ℕ) (l : Layout) (known : ℕ) (here : Bool) (table env out : List ℕ) (s : Now) (table' env' out' : List ℕ) (r : Result Stepped Fault) : Type 0 where
  pub sane : SaneStep env' out' r
  pub on : (x : Task) → Read x a template tlen shapes n l known table → Underway here x a template tlen shapes n l known table env out s
      → Comes x a template tlen shapes n l known table' env' out' r

-- in the string, whatever the template is
pub record StepsHere (a : List ℕ) (n : ℕ) (l : Layout) (known : ℕ) (table env out : List ℕ) (s : Now) (table' env' out' : List ℕ) (r : Result Stepped Fault) : Type 0 where
  pub steps : (template : List ℕ) (tlen : ℕ) (shapes : List ℕ) → Steps a template tlen shapes n l known false table env out s table' env' out' r

-- in the template, whatever the string is
pub record StepsInside (template : List ℕ) (tlen : ℕ) (l : Layout) (table out : List ℕ) (s : Now) (table' out' : List ℕ) (r : Result Stepped Fault) : Type 0 where
  pub steps : (a shapes : List ℕ) (n known : ℕ) (env : List ℕ) → Sane env out s → Steps a template tlen shapes n l known true table env out s table' env out' r
