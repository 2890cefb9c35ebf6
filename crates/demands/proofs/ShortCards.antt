-- SHORT CARDS ARE EXACT (paper 02, L7): `short-cards`, the last theorem.
use mathlib.Core.List.{List}
use mathlib.Core.Path.{◌∙◌, ◌≡◌, ap, subst⁻¹, sym}
use lib.ListN.{length}
use Prim.Native.Nat.{◌<◌, ◌≤◌, ℕ}
use Rattle.demands.proofs.Accepted.{check-accepted}
use Rattle.demands.proofs.InFull.{in-full, name-can-be-replaced}
use Rattle.demands.specs.Archive.{state_of}
use Rattle.demands.specs.ShortCards.{Body, Carded, ShortCards, bytes_of, count_of}
use Rattle.laws.proofs.CheckMemory.{card-left}
use Rattle.laws.proofs.Checks.{by-fields}
use Rattle.laws.proofs.ExpandedCards.{card-body, card-holds}
use Rattle.laws.proofs.Invariant.{good-adds, good-file, good_start}
use Rattle.laws.proofs.Memory.{few-params}
use Rattle.laws.proofs.Obeying.{obey-clears}
use Rattle.laws.proofs.Within.{within-adds, within-file, within-start}
use Rattle.laws.specs.Cards.{name_at_params}
use Rattle.laws.specs.Lawful.{adds}
use Rattle.limits.specs.Limits.{card_bytes, max_arity}
use Rattle.rules.specs.Run.{checked, judge_file, result}
use Rattle.rules.specs.State.{State, expansion_of, start}
use Rattle.theory.proofs.ExactCards.{exact-cards}
use Rattle.theory.specs.Card.{read_card}
use Rattle.theory.specs.ExactCards.{card_for}
use Rattle.theory.specs.Lists.{All}
use Rattle.theory.specs.Term.{Term}

module _ (d : Carded) where
  abbrev s : State
  s = state_of d.file

  accepted : checked d.file d.lent ≡ result s
  accepted = (check-accepted d.file d.lent d.count d.accepted).0

  fields : judge_file d.file ≡ result s
  fields = by-fields d.file d.lent s accepted

  in-state : d.number < length s.definitions
  in-state = subst⁻¹ (λ (k : ℕ). d.number < k) (check-accepted d.file d.lent d.count d.accepted).1 d.there

  few : count_of d ≤ max_arity
  few = few-params s (within-file d.file s fields) d.number in-state

  can-be-expanded : (u : Term) × Body d u
  can-be-expanded = (expansion_of s (name_at_params s d.number), name-can-be-replaced d.file d.lent s accepted d.number in-state)

  by_probing : (u : Term) → Body d u → bytes_of d ≡ card_for (count_of d) u
  by_probing u b =
      card-left d.file d.lent s accepted d.number in-state ∙ card-body s (good-file d.file s fields) d.number in-state
      ∙ ap (card_for (count_of d)) (sym (in-full d.file d.lent s accepted (name_at_params s d.number) u b))

-- SHORT CARDS
pub short-cards : ShortCards
short-cards =
    record {
      has_body = λ d. (few d, can-be-expanded d);
      sixteen =
          λ d.
          let (u, b) = can-be-expanded d in
          subst⁻¹ (λ (c : List ℕ). (length c ≡ card_bytes) × All (λ b. b < 256) c) (by_probing d u b) (exact-cards.sixteen (count_of d) (few d) u);
      by_probing = by_probing;
      exact = λ d u b v w. ap (λ (c : List ℕ). read_card c v) (by_probing d u b) ∙ exact-cards.exact (count_of d) (few d) u v w;
      equal_cards =
          λ d e t u b c.
          let (there, back) = exact-cards.equal_cards (count_of d) (count_of e) (few d) (few e) t u in (
            λ same. there (sym (by_probing d t b) ∙ same ∙ by_probing e u c),
            λ levels. by_probing d t b ∙ back levels ∙ sym (by_probing e u c),
          );
      judged_by_cards =
          λ before fit obey g there v w.
          let clears = obey-clears before start obey in
          sym (card-holds (adds start before) (good-adds before start fit clears good_start) g there (within-adds before start clears within-start) v w.0 w.1);
    }
