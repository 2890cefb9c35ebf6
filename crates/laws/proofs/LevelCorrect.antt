-- In every state that lawful fields reach, no definition is 4 with parameters at 0: of a definition field it is cause 12 that sees to it, of an instance L6.
use mathlib.Core.List.{List, [], ◌++◌, ◌∷◌}
use mathlib.Core.Option.{none}
use mathlib.Core.Path.{◌≡◌, refl, subst, subst⁻¹}
use lib.ListN.{length, length-append, length-map}
use native.Mathlib.Decide.{dec_lt}
use native.Mathlib.Omega.{arith}
use Prim.Native.Nat.{◌+◌, ◌-◌, ◌<◌, suc, zero, ℕ}
use Rattle.laws.proofs.Accept.{Clears, accepted-fields}
use Rattle.laws.proofs.CardsKept.{brought-card, level-kept, own-card}
use Rattle.laws.proofs.Causes.{clear-field}
use Rattle.laws.proofs.Invariant.{Good, good-add, good_start}
use Rattle.laws.proofs.LawfulBrought.{brought-correct, cleared-field, substitutes-formed, verdict-low}
use Rattle.laws.proofs.Replacing.{cards-keep}
use Rattle.laws.specs.Lawful.{adds}
use Rattle.laws.specs.LawfulInstances.{LevelCorrect, brought_level, level_at_zero}
use Rattle.rules.specs.Add.{add, own_one}
use Rattle.rules.specs.Expression.{Expression}
use Rattle.rules.specs.Field.{Field, FieldFits, Substitution, assume, begin_module, declare_constant, declare_variable, definition, end_module, extends, instance, theorem}
use Rattle.rules.specs.Instance.{brought_all, source}
use Rattle.rules.specs.Judge.{judge}
use Rattle.rules.specs.Run.{judge_file, result}
use Rattle.rules.specs.State.{Added, State, card_level, here, level_of, resolve, start, zeros}
use Rattle.theory.proofs.ExpandFirst.{eval-good}
use Rattle.theory.proofs.Lists.{at_all, replicate-all}
use Rattle.theory.specs.Level.{IsLevel, incorrect}
use Rattle.theory.specs.Lists.{All}
use Rattle.theory.specs.Term.{by_cards}

-- cards stay; what is looked at is those that are added
correct-more : (s s' : State) (ds : List Added) → s'.definitions ≡ s.definitions ++ ds → LevelCorrect s
    → ((i : ℕ) → i < length ds → level_at_zero s' (length s.definitions + i) < incorrect) → LevelCorrect s'
correct-more s s' ds added low new g l = by (dec_lt g (length s.definitions))
  where
    by : Dec (g < length s.definitions) → level_at_zero s' g < incorrect
    by (yes h) = subst⁻¹ (λ (x : ℕ). x < incorrect) (level-kept s s' ds added g h) (low g h)
    by (no h) =
        let n : length (s.definitions ++ ds) ≡ length s.definitions + length ds = length-append s.definitions ds in
        let k : g < length (s.definitions ++ ds) = subst (λ (l : List Added). g < length l) added l in
        let e : length s.definitions + (g - length s.definitions) ≡ g = omega arith in
        subst (λ (x : ℕ). level_at_zero s' x < incorrect) e (new (g - length s.definitions) (omega arith))

correct-same : (s s' : State) → s'.definitions ≡ s.definitions ++ [] → LevelCorrect s → LevelCorrect s'
correct-same s s' added low = correct-more s s' [] added low (λ i l. absurd (omega arith))

correct-definition : (s : State) (n p : ℕ) (e : Expression) → judge s (definition n p e) ≡ none → Good s → LevelCorrect s → LevelCorrect (add s (definition n p e))
correct-definition s n p e j good low = correct-more s (add s (definition n p e)) (own_one s n p e ∷ []) refl low new
  where
    new : (i : ℕ) → i < 1 → level_at_zero (add s (definition n p e)) (length s.definitions + i) < incorrect
    new zero l =
        subst⁻¹ (λ (x : ℕ). x < incorrect) (own-card s n p e)
        (verdict-low (level_of s (zeros p) (resolve s (here s) e))
        (eval-good (by_cards (card_level s)) IsLevel (cards-keep s good) (zeros p) (replicate-all IsLevel p 0 (omega arith)) (resolve s (here s) e) [] tt)
        (clear-field s (definition n p e) j).1.1.1.1.1.0)
    new (suc i) l = absurd (omega arith)

correct-instance : (s : State) (n p m : ℕ) (ss : List Substitution) → FieldFits (instance n p m ss) → judge s (instance n p m ss) ≡ none → Good s → LevelCorrect s
    → LevelCorrect (add s (instance n p m ss))
correct-instance s n p m ss h j good low =
    let c = cleared-field s n p m ss h j in
    let gs = (source s m).definitions in
    let size : length (brought_all s n p (source s m) ss) ≡ length gs = length-map gs _ in
    correct-more s (add s (instance n p m ss)) (brought_all s n p (source s m) ss) refl low λ i l.
    let there : i < length gs = omega arith in
    subst⁻¹ (λ (x : ℕ). x < incorrect) (brought-card s good n p m ss (substitutes-formed s good p m ss c) i there)
    (at_all (λ g. brought_level s p (source s m) ss g < incorrect) gs i 0 (brought-correct s good p m ss c low) there)

-- What no cause refuses keeps every definition level-correct.
pub level-correct-add : (s : State) (f : Field) → FieldFits f → judge s f ≡ none → Good s → LevelCorrect s → LevelCorrect (add s f)
level-correct-add s (begin_module n) h j good low = correct-same s (add s (begin_module n)) refl low
level-correct-add s (extends m ms) h j good low = correct-same s (add s (extends m ms)) refl low
level-correct-add s (declare_constant n k) h j good low = correct-same s (add s (declare_constant n k)) refl low
level-correct-add s (declare_variable n) h j good low = correct-same s (add s (declare_variable n)) refl low
level-correct-add s (definition n p e) h j good low = correct-definition s n p e j good low
level-correct-add s (instance n p m ss) h j good low = correct-instance s n p m ss h j good low
level-correct-add s end_module h j good low = correct-same s (add s end_module) refl low
level-correct-add s (assume e) h j good low = correct-same s (add s (assume e)) refl low
level-correct-add s (theorem e) h j good low = correct-same s (add s (theorem e)) refl low

pub level-correct-start : LevelCorrect start
level-correct-start g l = absurd (omega arith)

pub level-correct-adds : (fs : List Field) (s : State) → All FieldFits fs → Clears s fs → Good s → LevelCorrect s → LevelCorrect (adds s fs)
level-correct-adds [] s h c good low = low
level-correct-adds (f ∷ fs) s h c good low =
    level-correct-adds fs (add s f) h.1 c.1 (good-add s f h.0 c.0 good) (level-correct-add s f h.0 c.0 good low)

-- so in an accepted file
pub file-level-correct : (file : List ℕ) (s : State) → judge_file file ≡ result s → LevelCorrect s
file-level-correct file s e =
    let a = accepted-fields file s e in
    subst LevelCorrect a.reached (level-correct-adds a.fields start a.fit a.clear good_start level-correct-start)
