-- What a step in the template does to the numbers of a run and to the memory, whatever the string is. Definitions only.
use Rattle.std.specs.Prelude.{Err, Ok, Result, false, true, List, [], ◌∷◌, ◌≡◌, ℕ, ◌+◌, ◌-◌, ◌*◌, ◌/◌, ◌%◌, ◌^◌, ◌≤◌, ◌<◌, length}
use Rattle.std.proofs.lemmas.List.Edits.{sets}
use Rattle.symbols.specs.Symbol.{Symbol, after, begin, bytes_of, call, code, end, name, number, par, size, var}
use Rattle.strings.specs.Read.{width_of}
use Rattle.cells.specs.Words.{four, word_at}
use Rattle.cells.specs.declared.Layout.{Layout}
use Rattle.streaming.specs.declared.Now.{Now}
use Rattle.streaming.specs.declared.Fault.{Fault}
use Rattle.streaming.specs.declared.Stepped.{Stepped}
use Rattle.streaming.specs.declared.Stepped.TheVariants.{Finished, On}
use Rattle.streaming.specs.declared.Fault.TheVariants.{Lost, Short}

-- a step that goes on, unless it cannot be told how
abbrev pub Goes : (Now → Type 0) → Result Stepped Fault → Type 0
Goes P (Ok (On s)) = P s
Goes P (Ok (Finished len)) = ⊥
Goes P (Err Short) = ⊥
Goes P (Err Lost) = Unit {0}

-- word i of the call entered last
abbrev pub cell_at : Layout → Now → ℕ → ℕ
cell_at l s i = (s.top - 1) * l.stride + i

abbrev pub link_at : Layout → Now → ℕ
link_at l s = (s.top - 1) * l.stride + l.places + 2

-- where the template goes on, in the word that keeps the call around
pub record PlaceKept (at tp : ℕ) (table table' : List ℕ) : Type 0 where
  pub link : word_at table at < 2 ^ 32
  pub put : table' ≡ sets table (4 * at) (four (word_at table at / 2048 * 2048 + tp + 2))

-- into argument i, in the string
abbrev pub entered : Layout → ℕ → List ℕ → Now → Now
entered l i table s =
    record {
      q = s.q;
      p = word_at table (cell_at l s i) / 16384;
      e = word_at table (cell_at l s (i + 1)) / 16384;
      rank = word_at table (cell_at l s i) % 16384;
      top = s.top;
      inside = false;
      tp = s.tp;
      b = s.b;
      d = s.d;
    }

pub record Entered (l : Layout) (i : ℕ) (s : Now) (table table' : List ℕ) (r : Now) : Type 0 where
  pub some : 0 < s.top
  pub room : s.top ≤ l.room
  pub place : i < l.places
  pub early : s.tp < 2046
  pub keeps : PlaceKept (link_at l s) s.tp table table'
  pub from : word_at table' (cell_at l s i) < 2 ^ 32
  pub to : word_at table' (cell_at l s (i + 1)) < 2 ^ 32
  pub goes : r ≡ entered l i table' s

-- behind the call, in the string
abbrev pub left : Layout → List ℕ → Now → Now
left l table s =
    record {
      q = s.q;
      p = word_at table (cell_at l s l.places) / 16384;
      e = word_at table (cell_at l s l.places + 1);
      rank = word_at table (cell_at l s l.places) % 16384;
      top = word_at table (link_at l s) / 2048;
      inside = false;
      tp = s.tp;
      b = s.b;
      d = s.d;
    }

pub record Left (l : Layout) (s : Now) (table : List ℕ) (r : Now) : Type 0 where
  pub some : 0 < s.top
  pub after : word_at table (cell_at l s l.places) < 2 ^ 32
  pub end : word_at table (cell_at l s l.places + 1) < 2 ^ 32
  pub link : word_at table (link_at l s) < 2 ^ 32
  pub goes : r ≡ left l table s

-- behind a symbol of the template, which is written
abbrev pub behind : Symbol → Now → Now
behind g s =
    record {
      q = s.q + size (g ∷ []);
      p = s.p;
      e = s.e;
      rank = s.rank;
      top = s.top;
      inside = true;
      tp = s.tp + width_of g;
      b = after s.b g;
      d = s.d;
    }

pub record Wrote (g : Symbol) (s : Now) (out out' : List ℕ) (r : Now) : Type 0 where
  pub long : length out' ≡ length out
  pub within : s.q + size (g ∷ []) ≤ length out
  pub put : out' ≡ sets out s.q (bytes_of (g ∷ []))
  pub few : after s.b g ≤ 65536
  pub goes : r ≡ behind g s

-- there is no room for the symbol
pub record NoRoom (g : Symbol) (s : Now) (out out' : List ℕ) : Type 0 where
  pub long : length out' ≡ length out
  pub over : length out < s.q + size (g ∷ [])

abbrev pub Writes : Symbol → Now → List ℕ → List ℕ → Result Stepped Fault → Type 0
Writes g s out out' (Ok (On r)) = Wrote g s out out' r
Writes g s out out' (Ok (Finished len)) = ⊥
Writes g s out out' (Err Short) = NoRoom g s out out'
Writes g s out out' (Err Lost) = Unit {0}

-- a symbol of the template: into an argument, or written
abbrev pub Reads : Symbol → Layout → Now → List ℕ → List ℕ → List ℕ → List ℕ → Result Stepped Fault → Type 0
Reads (par i) l s table table' out out' r = Goes (Entered l i s table table') r × (out' ≡ out)
Reads (var j) l s table table' out out' r = Writes (var j) s out out' r × (table' ≡ table)
Reads (name x k) l s table table' out out' r = Writes (name x k) s out out' r × (table' ≡ table)
Reads (code c) l s table table' out out' r = Writes (code c) s out out' r × (table' ≡ table)
Reads (number v) l s table table' out out' r = Writes (number v) s out out' r × (table' ≡ table)
Reads (call n) l s table table' out out' r = Writes (call n) s out out' r × (table' ≡ table)
Reads begin l s table table' out out' r = Writes begin s out out' r × (table' ≡ table)
Reads end l s table table' out out' r = Writes end s out out' r × (table' ≡ table)
