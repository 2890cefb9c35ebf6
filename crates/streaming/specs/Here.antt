-- What the parts of a step in the string give.
use Rattle.std.specs.Prelude.{Err, Ok, Result, Option, Some, Bool, cond, false, true, List, [], ◌∷◌, ◌⊎◌, ◌≡◌, ℕ, ◌+◌, ◌-◌, ◌*◌, ◌%◌, ◌≤◌, ◌<◌, max, eqb, ltb, get_or, length}
use Rattle.std.proofs.lemmas.List.Edits.{sets}
use Rattle.symbols.specs.Symbol.{Symbol, bytes_of, is_wide, size}
use Rattle.strings.specs.Read.{width_of}
use Rattle.shifting.specs.Shift.{noted, opened_by, shift_one}
use Rattle.cells.specs.Words.{four, word_at}
use Rattle.streaming.specs.declared.Now.{Now}
use Rattle.streaming.specs.declared.Fault.{Fault}
use Rattle.streaming.specs.declared.Stepped.{Stepped}
use Rattle.streaming.specs.declared.Stepped.TheVariants.{Finished, On}
use Rattle.streaming.specs.declared.Fault.TheVariants.{Lost, Short}
use Rattle.cells.specs.declared.Layout.{Layout}

-- the index of a variable as it is written
abbrev pub shifted_index : List ℕ → ℕ → ℕ → ℕ → ℕ
shifted_index env b d j = j + (b - get_or (noted env d) j 0)

-- the brackets open after a symbol, if that can be told
pub record Opens (g : Symbol) (b d : ℕ) (env env' : List ℕ) (r : Option ℕ) : Type 0 where
  pub long : length env' ≡ length env
  pub yes : (k : ℕ) → r ≡ Some k → (noted env' k ≡ opened_by b (noted env d) g) × (k ≤ length env)

-- a symbol as it is written
abbrev pub written : List ℕ → Now → Symbol → List Symbol
written env s g = shift_one (noted env s.d) s.b g ∷ []

-- on to the symbol after it, so many bytes being written
pub record Passes (g : Symbol) (called : Bool) (known : ℕ) (env : List ℕ) (s : Now) (len : ℕ) (env' : List ℕ) (t : Now) : Type 0 where
  pub q : t.q ≡ len
  pub p : t.p ≡ s.p + width_of g
  pub e : t.e ≡ s.e
  pub rank : t.rank ≡ cond called (cond (ltb s.rank known) (s.rank + 1) s.rank) s.rank
  pub most : t.rank ≤ max s.rank known
  pub top : t.top ≡ s.top
  pub inside : t.inside ≡ false
  pub tp : t.tp ≡ s.tp
  pub b : t.b ≡ s.b
  pub opened : noted env' t.d ≡ opened_by s.b (noted env s.d) g
  pub bounded : t.d ≤ length env'

abbrev pub PassesHere : Symbol → Bool → ℕ → List ℕ → Now → ℕ → List ℕ → Result Stepped Fault → Type 0
PassesHere g called known env s len env' (Ok (On t)) = Passes g called known env s len env' t
PassesHere g called known env s len env' (Ok (Finished end)) = ⊥
PassesHere g called known env s len env' (Err Short) = ⊥
PassesHere g called known env s len env' (Err Lost) = Unit {0}

pub record Writes (g : Symbol) (called : Bool) (known : ℕ) (env out : List ℕ) (s : Now) (env' out' : List ℕ) (t : Now) : Type 0 where
  pub long : length out' ≡ length out
  pub room : t.q ≤ length out
  pub put : out' ≡ sets out s.q (bytes_of (written env s g))
  pub passes : Passes g called known env s (s.q + size (written env s g)) env' t

abbrev pub WritesHere : Symbol → Bool → ℕ → List ℕ → List ℕ → Now → List ℕ → List ℕ → Result Stepped Fault → Type 0
WritesHere g called known env out s env' out' (Ok (On t)) = Writes g called known env out s env' out' t
WritesHere g called known env out s env' out' (Ok (Finished len)) = ⊥
WritesHere g called known env out s env' out' (Err Short) =
    (length out' ≡ length out) × ((length out < s.q + size (written env s g)) ⊎ (is_wide (shift_one (noted env s.d) s.b g) ≡ true))
WritesHere g called known env out s env' out' (Err Lost) = Unit {0}

-- in the template of a call that has been entered
abbrev pub entered : Now → Now
entered s =
    record {
      q = s.q;
      p = s.p;
      e = s.e;
      rank = s.rank;
      top = s.rank + 1;
      inside = true;
      tp = 0;
      b = s.b;
      d = s.d;
    }

pub record EntersCall (l : Layout) (table : List ℕ) (s : Now) (table' : List ℕ) (t : Now) : Type 0 where
  pub goes : t ≡ entered s
  pub put : table' ≡ sets (sets table (4 * (s.rank * l.stride + l.places + 1)) (four s.e)) (4 * (s.rank * l.stride + l.places + 2)) (four (s.top * 2048))

-- in the template again, after an argument
abbrev pub returned : Layout → List ℕ → Now → Now
returned l table s =
    record {
      q = s.q;
      p = s.p;
      e = s.e;
      rank = s.rank;
      top = s.top;
      inside = true;
      tp = word_at table ((s.top - 1) * l.stride + l.places + 2) % 2048;
      b = s.b;
      d = s.d;
    }

abbrev pub leaving : Layout → List ℕ → Now → Stepped
leaving l table s = cond (eqb s.top 0) (Finished s.q) (On (returned l table s))
