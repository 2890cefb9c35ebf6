-- What the strings along a chain call: definitions below its own, and stand-ins of lower numbers.
use mathlib.Core.Bool.{false}
use mathlib.Core.List.{List}
use mathlib.Core.Logic.{◌⊎◌, inl, inr}
use mathlib.Core.Path.{◌≡◌, subst}
use borrow.Author.Tests.{lt-leb}
use lib.Dec.{leb}
use lib.ListN.{get_or, length}
use native.Mathlib.Omega.{arith}
use Prim.Native.Nat.{◌*◌, ◌+◌, ◌-◌, ◌<◌, ◌≤◌, suc, ℕ}
use Rattle.limits.specs.Limits.{max_declarations, max_definitions}
use Rattle.symbols.specs.Spell.{spell}
use Rattle.theory.proofs.Bytes.{bytes}
use Rattle.theory.specs.Term.{Term, kind_arity}
use Rattle.rules.specs.State.{params_of}
use Rattle.texts.specs.Text.{no_declaration}
use Rattle.store.specs.declared.Store.{Store}
use Rattle.worlds.proofs.Uses.{uses-more}
use Rattle.worlds.specs.Rows.{world_of}
use Rattle.worlds.specs.World.{World}
use Rattle.strings.specs.Read.{far}
use Rattle.chains.proofs.Knowing.{NamedIn}
use Rattle.chains.specs.Walk.{outer_after}
use Rattle.unfolding.proofs.AllRight.{callable-cases}
use Rattle.unfolding.proofs.Callees.{chain_length, few-below, few-declared, own-unfolds, standin-term}
use Rattle.unfolding.proofs.SpellAgree.{calls-none}
use Rattle.unfolding.proofs.StandIns.{StandInNumber, standin-number}
use Rattle.unfolding.specs.CalleeTerm.{own_term, stand_in_term}
use Rattle.unfolding.specs.InWorld.{stand_in}
use Rattle.unfolding.specs.Right.{Calling}
use Rattle.unfolding.specs.StandIn.{Callable, StandInOf, Unfolds, entry_of, level_of, outermost}
use Rattle.templates.specs.Shaped.{Along, ChainHeld}
use Rattle.templates.specs.Told.{Told}

module _ (file refs : List ℕ) (v : Store) (declared : List ℕ) (n d k : ℕ) (numbers currents outers : List ℕ) (x : Told file refs v declared n)
    (there : d < x.counts.definitions) (chain : ChainHeld file refs v declared n d k numbers currents outers x) where
  abbrev W : World
  W = world_of x.rows d

  pub links : k ≡ length (world_of x.rows d)
  links =
      chain_length file refs v declared n d x.counts x.state x.rows x.decls x.end x.ready there x.room k numbers currents outers chain

  pub low : d < max_definitions
  low = few-below file refs v declared n d x.counts x.state x.rows x.decls x.end x.ready there x.room k numbers currents outers chain

  few : length x.decls ≤ max_declarations
  few = few-declared file refs v declared n d x.counts x.state x.rows x.decls x.end x.ready there x.room k numbers currents outers chain

  -- what a text at level l calls
  pub callable-number : (l m : ℕ) → l ≤ k → Callable x.decls d (outermost l W) m → (m < d) ⊎ StandInNumber x.decls W l m
  callable-number l m q h = go (callable-cases x.decls d (outermost l W) m h)
    where
      go : (m < d) ⊎ StandInOf x.decls (outermost l W) m → (m < d) ⊎ StandInNumber x.decls W l m
      go (inl a) = inl a
      go (inr a) = inr (standin-number x.decls W l m few (omega (arith, links)) a)

  pub callable-below : (l m : ℕ) → l ≤ k → Callable x.decls d (outermost l W) m → m < max_definitions + max_declarations * suc l
  callable-below l m q h = go (callable-number l m q h)
    where
      go : (m < d) ⊎ StandInNumber x.decls W l m → m < max_definitions + max_declarations * suc l
      go (inl a) = omega (arith, low)
      go (inr a) = omega (arith, a.level, a.high)

  -- The text of definition d.
  abbrev own : Term
  own = own_term file refs v.facts x.decls k numbers currents outers

  pub own-text : Unfolds bytes x.state x.decls (world_of x.rows d) d d (params_of x.state d) k (own_term file refs v.facts x.decls k numbers currents outers)
  own-text =
      own-unfolds file refs v declared n d x.counts x.state x.rows x.decls x.end x.ready there x.room k numbers currents outers chain bytes

  pub own-calling : (P : ℕ → Type 0) → ((m : ℕ) → Callable x.decls d (outermost k (world_of x.rows d)) m → P m)
      → Calling P 0 (own_term file refs v.facts x.decls k numbers currents outers)
  own-calling P f = uses-more (Callable x.decls d (outermost k W)) P f own own-text.calls

  -- What stands for stand-in m.
  module _ (m : ℕ) (a : Along file refs v declared n d k m x) where
    abbrev l : ℕ
    l = level_of m - 1

    pub along-on : level_of m - 1 < k
    along-on = omega (arith, a.high, a.level)

    pub along-named : NamedIn x.decls (outermost (suc (level_of m - 1)) (world_of x.rows d)) (entry_of m)
    along-named =
        let e : level_of m ≡ suc l = omega (arith, a.high) in
        subst (λ (j : ℕ). NamedIn x.decls (outermost j W) (entry_of m)) e a.named

    pub standin-text : Unfolds bytes x.state x.decls (world_of x.rows d) d (stand_in (suc (level_of m - 1)) (max_definitions + entry_of m))
        (outer_after v.facts (get_or outers (level_of m - 1) 0) (get_or currents (level_of m - 1) 0) + kind_arity (get_or x.decls (entry_of m) no_declaration).0) (level_of m - 1)
        (stand_in_term file refs v x.decls numbers currents outers (level_of m - 1) (entry_of m))
    standin-text =
        standin-term file refs v declared n d x.counts x.state x.rows x.decls x.end x.ready there x.room k numbers currents outers chain l (entry_of m) along-on
        along-named bytes

    pub standin-calling : (P : ℕ → Type 0) → ((c : ℕ) → Callable x.decls d (outermost (level_of m - 1) (world_of x.rows d)) c → P c)
        → Calling P 0 (stand_in_term file refs v x.decls numbers currents outers (level_of m - 1) (entry_of m))
    standin-calling P f = uses-more (Callable x.decls d (outermost l W)) P f (stand_in_term file refs v x.decls numbers currents outers l (entry_of m)) standin-text.calls

    -- it calls lower numbers only
    pub standin-below : Calling (λ c. c < m) 0 (stand_in_term file refs v x.decls numbers currents outers (level_of m - 1) (entry_of m))
    standin-below = standin-calling (λ c. c < m) (λ c h. omega (arith, callable-below l c (omega (arith, along-on)) h, a.high))

    pub standin-near : (σ : ℕ → ℕ) → m < 1280 → far (spell σ (stand_in_term file refs v x.decls numbers currents outers (level_of m - 1) (entry_of m))) ≡ false
    standin-near σ b =
        calls-none (λ c. leb 1280 c) σ (stand_in_term file refs v x.decls numbers currents outers l (entry_of m)) 0
        (standin-calling (λ c. leb 1280 c ≡ false) (λ c h. lt-leb 1280 c (omega (arith, callable-below l c (omega (arith, along-on)) h, a.high))))

  pub own-near : (σ : ℕ → ℕ) → k ≤ 15 → far (spell σ (own_term file refs v.facts x.decls k numbers currents outers)) ≡ false
  own-near σ b = calls-none (λ c. leb 1280 c) σ own 0 (own-calling (λ c. leb 1280 c ≡ false) (λ c h. lt-leb 1280 c (omega (arith, callable-below k c (omega arith) h))))
