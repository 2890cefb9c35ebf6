-- What stands between two fields is enough to walk along every chain.
use mathlib.Core.List.{List}
use native.Mathlib.Omega.{arith}
use Prim.Native.Nat.{◌≤◌, ℕ}
use Rattle.limits.specs.Limits.{max_arity, max_declarations}
use Rattle.theory.proofs.Lists.{at_all}
use Rattle.rules.specs.Field.{Field}
use Rattle.rules.specs.State.{State, no_definition}
use Rattle.store.specs.declared.Store.{Store}
use Rattle.context.specs.declared.Counts.{Counts}
use Rattle.judge_plain.specs.declared.Phase.{Phase}
use Rattle.resolve.proofs.Numbers.{declarations_of}
use Rattle.worlds.proofs.Invariant.{length-meanings}
use Rattle.worlds.specs.Rows.{Row}
use Rattle.standing.specs.Standing.{Standing}
use Rattle.chains.specs.Ready.{Ready}

module _ (file : List ℕ) (fs : List Field) (s : State) (rs : List Row) (v : Store) (c : Counts) (p : Phase) (refs words : List ℕ)
    (stands : Standing file fs s rs v c p refs words) where
  pub standing-ready : Ready file refs v v.declared c.declarations c s rs (declarations_of fs) s.bytes
  standing-ready =
      record {
        counted = stands.holds.definitions;
        few = stands.holds.sized.definitions;
        modules = stands.holds.sized.modules;
        worlds = stands.worlds;
        sound = stands.good.sound;
        named = λ D l. stands.covered.all D (omega (arith, stands.worlds.book.counted, length-meanings s));
        chained = stands.chained;
        codes = stands.codes;
        numbered = omega (arith, stands.declares.counted);
        params = λ g l. at_all (λ d. d.params ≤ max_arity) s.definitions g no_definition stands.within.params l;
      }

  pub standing-room : c.declarations ≤ max_declarations
  standing-room = stands.declares.few
