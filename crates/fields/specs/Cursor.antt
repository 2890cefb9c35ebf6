-- What stands at a cursor. Definitions only.
use Rattle.std.specs.Prelude.{ℕ, ◌+◌, ◌-◌, Bool, true, false, cond, List, leb, ltb, length, get_or}
use Rattle.tokens.specs.Token.{number_at}
use Rattle.fields.specs.Substitution.{part}
use Rattle.fields.specs.Payload.{parts_of}
use Rattle.fields.specs.declared.Cursor.{Cursor}
use Rattle.fields.specs.declared.FieldStep.{FieldStep}
use Rattle.fields.specs.declared.Parts.{Parts}
use Rattle.fields.specs.declared.Parts.TheVariants.{Module, Extends, Constant, Variable, Definition, Instance, EndModule, Assume, Theorem, Cut, EndOfFile}

-- the position of a cursor
abbrev pub place_of : Cursor → ℕ
place_of c = c.number + c.offset

-- the cursor stays; or goes past a tag, a length and a payload of n bytes
abbrev pub stays : Cursor → Parts → FieldStep
stays c x = record { parts = x; number = c.number; next = c }

abbrev pub goes : Cursor → ℕ → Parts → FieldStep
goes c n x = record { parts = x; number = c.number; next = record { number = c.number + 1; offset = c.offset + 2 + n } }

-- "A field is a one-byte tag, a two-byte length, and that many bytes."
unfoldable pub step_at : List ℕ → Cursor → FieldStep
step_at s c =
    let at = place_of c in
    cond (leb (length s) at) (stays c EndOfFile)
    (cond (ltb (length s - at) 3) (stays c Cut)
    (cond (ltb (length s - (at + 3)) (number_at s (at + 1))) (stays c Cut)
    (goes c (number_at s (at + 1)) (parts_of (get_or s at 0) (part s (at + 3) (number_at s (at + 1))) (at + 3)))))

-- the bytes there are no field; no bytes are left
abbrev pub is_cut : Parts → Bool
is_cut (Module n) = false
is_cut (Extends at k) = false
is_cut (Constant n k) = false
is_cut (Variable n) = false
is_cut (Definition n k at l) = false
is_cut (Instance n k m i at) = false
is_cut EndModule = false
is_cut (Assume at l) = false
is_cut (Theorem at l) = false
is_cut Cut = true
is_cut EndOfFile = false

abbrev pub is_end : Parts → Bool
is_end (Module n) = false
is_end (Extends at k) = false
is_end (Constant n k) = false
is_end (Variable n) = false
is_end (Definition n k at l) = false
is_end (Instance n k m i at) = false
is_end EndModule = false
is_end (Assume at l) = false
is_end (Theorem at l) = false
is_end Cut = false
is_end EndOfFile = true
