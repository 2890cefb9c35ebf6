-- One round after another: what is kept in each is kept in all.
use mathlib.Core.Bool.{false}
use mathlib.Core.List.{List}
use mathlib.Core.Path.{◌∙◌, ◌≡◌, refl, sym}
use Prim.Native.Nat.{ℕ}
use lib.Dec.{eqb}
use Rattle.theory.specs.Lists.{any}
use Rattle.theory.specs.Term.{Term}
use Rattle.symbols.specs.Spell.{spell}
use Rattle.symbols.specs.Symbol.{Spelt, calls}
use Rattle.std.specs.Prelude.{Option, Some}
use Rattle.std.proofs.lemmas.Option.{none-some, same_Some}
use Rattle.unfolding.proofs.SameLaws.{same-trans}
use Rattle.rewriting.specs.Going.{Kept}
use Rattle.rewriting.specs.Rewritten.{Posed, Replaced, Task, Templated}

-- the task that is left
abbrev pub again : Task → Term → Task
again x t = record { sense = x.sense; params = x.params; term = t; arity = x.arity; text = x.text }

-- nothing has been done
abbrev pub kept-first : (x : Task) (a : List ℕ) (len n : ℕ) (template : List ℕ) (tlen : ℕ) (shapes : List ℕ) → Posed a len n template tlen shapes x → Kept x
kept-first x a len n template tlen shapes z =
    record {
      term = x.term;
      same = record { as_bytes = λ ρ β. refl; as_sizes = λ ρ β. refl };
      stands = z.stands;
      others = λ q c d. c;
      near = z.near;
      shape = refl;
    }

pub templated-again : (n : ℕ) (template : List ℕ) (tlen : ℕ) (shapes : List ℕ) (x : Task) (t : Term) → Templated n template tlen shapes x → Templated n template tlen shapes (again x t)
templated-again n template tlen shapes x t w =
    record { shaped = w.shaped; few = w.few; callee = w.callee; fresh = w.fresh; near = w.near; spelt = w.spelt; inside = w.inside }

pub posed-again : (n : ℕ) (template : List ℕ) (tlen : ℕ) (shapes : List ℕ) (x : Task) (k : Kept x) (a : List ℕ) (len : ℕ) → Templated n template tlen shapes x
    → Spelt a 0 (spell x.sense.shape k.term) len → Posed a len n template tlen shapes (again x k.term)
posed-again n template tlen shapes x k a len w s =
    record { templated = templated-again n template tlen shapes x k.term w; stands = k.stands; near = k.near; spelt = s }

abbrev pub kept-through : (x : Task) (k : Kept x) → Kept (again x k.term) → Kept x
kept-through x k m =
    record {
      term = m.term;
      same = same-trans x.sense x.term k.term m.term k.same m.same;
      stands = m.stands;
      others = λ q c d. m.others q (k.others q c d) d;
      near = m.near;
      shape = m.shape ∙ k.shape;
    }

pub replaced-through : (n : ℕ) (x : Task) (k : Kept x) (a : List ℕ) (r : Option ℕ) → Replaced n (again x k.term) a r → Replaced n x a r
replaced-through n x k a r m =
    record {
      term = m.term;
      same = same-trans x.sense x.term k.term m.term k.same m.same;
      stands = m.stands;
      others = λ q c d. m.others q (k.others q c d) d;
      near = m.near;
      shape = m.shape ∙ k.shape;
      yes = m.yes;
      no = m.no;
    }

-- no call is left
pub replaced-all : (n : ℕ) (x : Task) (k : Kept x) (a : List ℕ) (size : ℕ) → Spelt a 0 (spell x.sense.shape k.term) size
    → any (calls (eqb n)) (spell x.sense.shape k.term) ≡ false → Replaced n x a (Some size)
replaced-all n x k a size s c =
    record {
      term = k.term;
      same = k.same;
      stands = k.stands;
      others = k.others;
      near = k.near;
      shape = k.shape;
      yes = λ m e. rw (← same_Some size m e) (s, c);
      no = λ e. absurd (none-some size (sym e));
    }
