-- The indices of a string's variables where templates have opened brackets among the string's own. Definitions only.
use Rattle.std.specs.Prelude.{List, [], ◌∷◌, ◌≡◌, ℕ, zero, suc, ◌+◌, ◌-◌, ◌≤◌, ◌<◌, drop, get_or}
use Rattle.symbols.specs.Symbol.{Symbol, after, begin, call, code, end, name, number, par, var}

-- Of each bracket of the string that is open, the innermost first, how many brackets of templates were open when it was opened: after a
-- symbol of the string, b being open.
abbrev pub opened_by : ℕ → List ℕ → Symbol → List ℕ
opened_by b E (par i) = E
opened_by b E (var j) = E
opened_by b E (name x k) = E
opened_by b E (code c) = E
opened_by b E (number v) = E
opened_by b E (call n) = E
opened_by b E begin = b ∷ E
opened_by b E end = drop 1 E

-- "bound indices moved so that nothing is captured": a variable moves by the brackets that templates have opened since its own was opened
abbrev pub shift_one : List ℕ → ℕ → Symbol → Symbol
shift_one E b (par i) = par i
shift_one E b (var j) = var (j + (b - get_or E j 0))
shift_one E b (name x k) = name x k
shift_one E b (code c) = code c
shift_one E b (number v) = number v
shift_one E b (call n) = call n
shift_one E b begin = begin
shift_one E b end = end

abbrev pub shift : List ℕ → ℕ → List Symbol → List Symbol
shift E b [] = []
shift E b (g ∷ gs) = shift_one E b g ∷ shift (opened_by b E g) b gs

abbrev pub shift_each : List ℕ → ℕ → List (List Symbol) → List (List Symbol)
shift_each E b [] = []
shift_each E b (gs ∷ rest) = shift E b gs ∷ shift_each E b rest

-- a bracket is open where one is closed
abbrev pub ClosesOne : ℕ → Symbol → Type 0
ClosesOne c (par i) = Unit {0}
ClosesOne c (var j) = Unit {0}
ClosesOne c (name x k) = Unit {0}
ClosesOne c (code k) = Unit {0}
ClosesOne c (number v) = Unit {0}
ClosesOne c (call n) = Unit {0}
ClosesOne c begin = Unit {0}
ClosesOne c end = 0 < c

-- c brackets are open before the string, and none after it
abbrev pub Closes : ℕ → List Symbol → Type 0
Closes c [] = c ≡ 0
Closes c (g ∷ gs) = ClosesOne c g × Closes (after c g) gs

-- none is more than b
abbrev pub Below : ℕ → List ℕ → Type 0
Below b [] = Unit {0}
Below b (e ∷ es) = (e ≤ b) × Below b es

-- the first d numbers of an array, the last first
abbrev pub noted : List ℕ → ℕ → List ℕ
noted env zero = []
noted env (suc d) = get_or env d 0 ∷ noted env d
