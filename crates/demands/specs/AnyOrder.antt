-- Replacing defined names one at a time, in whatever order.
use Rattle.std.specs.Prelude.{◌≡◌, length, ◌<◌, ℕ}
use Rattle.demands.specs.LongWay.{InFull}
use Rattle.laws.specs.Cards.{name_at_params}
use Rattle.rules.specs.State.{State}
use Rattle.theory.specs.Expand.{put_in}
use Rattle.theory.specs.Term.{Head, Term, Terms, defined}
use Rattle.theory.specs.Tree.{◌▹◌, node}

mutual
  -- one defined name, wherever it stands, replaced by its body in full, the arguments put in as they are
  pub data Replaces (s : State) : Term → Term → Type 0 where
    at_name : (g : ℕ) (u v : Term) (ts : Terms) → g < length s.definitions → InFull s (name_at_params s g) u → v ≡ put_in ts u → Replaces s (node (defined g) ts) v
    inside : (h : Head) (ts us : Terms) → ReplacesOne s ts us → Replaces s (node h ts) (node h us)

  pub data ReplacesOne (s : State) : Terms → Terms → Type 0 where
    in-first : (t u : Term) (ts : Terms) → Replaces s t u → ReplacesOne s (t ▹ ts) (u ▹ ts)
    in_others : (t : Term) (ts us : Terms) → ReplacesOne s ts us → ReplacesOne s (t ▹ ts) (t ▹ us)

-- one after another
pub data AnyOrder (s : State) : Term → Term → Type 0 where
  no_more : (t : Term) → AnyOrder s t t
  and_then : (t u v : Term) → Replaces s t u → AnyOrder s u v → AnyOrder s t v
