-- What it is that demand 3 does first: "replaces every defined name by its body in full, instances included, however long that grows".
use Rattle.std.specs.Prelude.{◌≡◌, length, ◌<◌, ℕ}
use Rattle.laws.specs.Cards.{name_at_params}
use Rattle.rules.specs.State.{State, definition_at}
use Rattle.theory.specs.Expand.{brought, instantiate, own, put_in}
use Rattle.theory.specs.Term.{Head, Kind, Term, Terms, bound, builtin, declared, defined, leaf, param}
use Rattle.theory.specs.Tree.{◌▹◌, node, ⟨⟩}

-- a head other than a defined name
abbrev pub Basic : Head → Type 0
Basic (param i) = Unit {0}
Basic (bound j) = Unit {0}
Basic (declared k x) = Unit {0}
Basic (defined g) = ⊥
Basic (builtin c) = Unit {0}
Basic (leaf l) = Unit {0}

-- REPLACED IN FULL, as one who has the definitions before them does it, with nothing prepared: InFull s t u says that t, so replaced, is u.
mutual
  pub data InFull (s : State) : Term → Term → Type 0 where
    -- what is no defined name stays, its arguments replaced in full;
    stays : (h : Head) (ts us : Terms) → Basic h → AllInFull s ts us → InFull s (node h ts) (node h us)
    -- "Expansion replaces each defined name by its expanded body, arguments put in": definition g of a module, with its body t;
    by_body : (g n : ℕ) (t u v : Term) (ts us : Terms) → g < length s.definitions → (definition_at s g).meaning ≡ own n t
        → AllInFull s ts us → InFull s t u → v ≡ put_in us u → InFull s (node (defined g) ts) v
    -- "I!F expands to F's expansion in its module with every declared name substituted": definition g, brought by an instance with p parameters from
    -- definition h, `written` being what it puts for each declared name.
    by_instance : (g p h : ℕ) (written whole : Kind → ℕ → Term) (u v : Term) (ts us : Terms) → g < length s.definitions → (definition_at s g).meaning ≡ brought p written h
        → AllInFull s ts us → InFull s (name_at_params s h) u → ((k : Kind) (x : ℕ) → InFull s (written k x) (whole k x))
        → v ≡ put_in us (instantiate whole p u) → InFull s (node (defined g) ts) v

  -- each of some arguments
  pub data AllInFull (s : State) : Terms → Terms → Type 0 where
    nothing_left : AllInFull s ⟨⟩ ⟨⟩
    one_more : (t u : Term) (ts us : Terms) → InFull s t u → AllInFull s ts us → AllInFull s (t ▹ ts) (u ▹ us)
