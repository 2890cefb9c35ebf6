-- The end of an expansion: where no call is left, the string without its brackets is the expansion's bytes.
use mathlib.Core.Bool.{Bool, ◌||◌, false, true}
use mathlib.Core.List.{List, [], ◌∷◌}
use mathlib.Core.Path.{◌∙◌, ◌≡◌, ap, refl, sym}
use borrow.Author.Tests.{leb-false, lt-ltb}
use lib.Dec.{leb}
use native.Mathlib.Omega.{arith}
use Prim.Native.Nat.{◌<◌, max, ℕ}
use Rattle.limits.specs.Limits.{max_definitions}
use Rattle.laws.proofs.Sound.{SoundFrom}
use Rattle.rules.specs.Query.{expansion_bytes_of}
use Rattle.rules.specs.State.{State, meanings, templates_of}
use Rattle.strings.specs.Read.{highest_call}
use Rattle.symbols.specs.Spell.{spell}
use Rattle.symbols.specs.Symbol.{Symbol, begin, call, calls, code, end, name, number, par, strip, var}
use Rattle.theory.proofs.Bytes.{Bytes, bytes, param_bytes}
use Rattle.theory.proofs.Lists.{never}
use Rattle.theory.specs.Expand.{Known, arities_of}
use Rattle.theory.specs.Lists.{any}
use Rattle.theory.specs.Term.{Term}
use Rattle.unfolding.proofs.Stripped.{strip-written}
use Rattle.unfolding.proofs.Whole.{bytes_whole}
use Rattle.unfolding.specs.CalleeTerm.{sense_of}
use Rattle.unfolding.specs.Meaning.{meaning_of}
use Rattle.unfolding.specs.Right.{ShapeRight}
use Rattle.unfolding.specs.Sense.{Right, Same, Stands}
use Rattle.worlds.proofs.Uses.{uses-more}

module _ (s : State) (sound : SoundFrom [] s.definitions) (σ : ℕ → ℕ) (p : ℕ) (t u : Term) (known : Known (meanings s) p t) (same : Same (sense_of s σ) t u)
    (stands : Stands (sense_of s σ) p u) where
  pub expansion-bytes : any (calls (λ n. true)) (spell σ u) ≡ false → expansion_bytes_of s t ≡ strip (spell σ u)
  expansion-bytes e =
      bytes_whole s sound p t known ∙ ap (λ (v : Bytes). v 0) (same.as_bytes (param_bytes 0 p) [])
      ∙ sym (strip-written σ (arities_of (templates_of s)) (meaning_of bytes s) p u 0 stands.formed
      (uses-more (Right (sense_of s σ)) (ShapeRight bytes σ (arities_of (templates_of s)) (meaning_of bytes s)) (λ x r. r.0) u stands.calls) e)

-- A string that calls no definition, and nothing else, calls nothing.
later : (gs : List Symbol) (d : ℕ) → max d (highest_call gs) ≡ 0 → highest_call gs ≡ 0
later gs d h = omega arith

pub none-called : (gs : List Symbol) → highest_call gs ≡ 0 → any (calls (λ n. leb max_definitions n)) gs ≡ false → any (calls (λ n. true)) gs ≡ false
none-called [] h e = refl
none-called (par i ∷ gs) h e = none-called gs (later gs 0 h) e
none-called (var j ∷ gs) h e = none-called gs (later gs 0 h) e
none-called (name x k ∷ gs) h e = none-called gs (later gs 0 h) e
none-called (code c ∷ gs) h e = none-called gs (later gs 0 h) e
none-called (number v ∷ gs) h e = none-called gs (later gs 0 h) e
none-called (call n ∷ gs) h e = absurd (both (leb max_definitions n) refl e)
  where
    both : (b : Bool) → leb max_definitions n ≡ b → (b || any (calls (λ n. leb max_definitions n)) gs) ≡ false → ⊥
    both true p q = never q
    both false p q =
        let l : n < max_definitions = leb-false max_definitions n p in
        let z = rw (lt-ltb n max_definitions l) at h in
        omega arith
none-called (begin ∷ gs) h e = none-called gs (later gs 0 h) e
none-called (end ∷ gs) h e = none-called gs (later gs 0 h) e
