-- The sizes of the arrays of 16-bit numbers that keep what the fields add. They follow from the limits; nothing of the paper depends on them.
use Rattle.std.specs.Prelude.{ℕ, ◌+◌, ◌*◌, ◌/◌}
use Rattle.limits.specs.Limits.{file_bytes, max_declarations, max_definitions, max_modules}

-- "A field is a one-byte tag, a two-byte length, and that many bytes"
abbrev pub field_head_bytes : ℕ
field_head_bytes = 3

-- "7 end of module: empty." Every other field has a name, of two bytes, or an expression, whose first token has two bytes at least:
abbrev pub shortest_payload_bytes : ℕ
shortest_payload_bytes = 2

-- none of them is shorter than this.
abbrev pub shortest_field_bytes : ℕ
shortest_field_bytes = field_head_bytes + shortest_payload_bytes

-- Each end of module lacks the shortest payload, and a lawful file ends "16 modules" at most: it holds at most this many fields.
abbrev pub max_fields : ℕ
max_fields = (file_bytes + shortest_payload_bytes * max_modules) / shortest_field_bytes

-- A code stands for an origin, "the same field or the same definition number": first the definitions, then the fields.
abbrev pub code_count : ℕ
code_count = max_definitions + max_fields

-- what is kept of a code: so many numbers,
abbrev pub column_count : ℕ
column_count = 6

-- and of all codes
abbrev pub facts_length : ℕ
facts_length = column_count * code_count

-- the modules ended, and then the one that is open
abbrev pub place_count : ℕ
place_count = max_modules + 1

-- A context: extended names, each code once, and then own ones, each of which comes with a field or a definition more.
abbrev pub context_length : ℕ
context_length = code_count + max_definitions

-- a context for each module
abbrev pub contexts_length : ℕ
contexts_length = place_count * context_length

-- each module's definitions, in their order
abbrev pub orders_length : ℕ
orders_length = place_count * max_definitions

-- of each module its name, the length of its context and the number of its definitions
abbrev pub heads_length : ℕ
heads_length = 3 * place_count

-- all that the fields add, with the code of each declaration
abbrev pub store_length : ℕ
store_length = code_count + facts_length + contexts_length + orders_length + heads_length + max_declarations
