-- A table of forms with one of them stored.
use mathlib.Core.List.{List}
use mathlib.Core.Logic.{◌≢◌}
use mathlib.Core.Path.{◌≡◌}
use Prim.Native.Nat.{ℕ, ◌<◌}
use lib.ListN.{length, length-set}
use lib.Seq.{get_or-set_other, get_or-set_same}
use Rattle.forms.specs.Forms.{form_at, stored}

pub stored-length : (t : List ℕ) (g f : ℕ) → length (stored t g f) ≡ length t
stored-length t g f = length-set t g f

pub load_same : (t : List ℕ) (g f : ℕ) → g < length t → form_at (stored t g f) g ≡ f
load_same t g f h = get_or-set_same t g f 0 h

pub load-other : (t : List ℕ) (g i f : ℕ) → i ≢ g → form_at (stored t g f) i ≡ form_at t i
load-other t g i f n = get_or-set_other t g i f 0 n
