-- The laws of reasons that stand behind those of a listing: a refused listing is refused as by itself, and of an accepted one the others decide.
use Rattle.std.specs.Prelude.{ℕ, ◌<◌, ◌≡◌, refl, List, ◌++◌, true, false, ◌↔◌, Ok, Err}
use Rattle.std.proofs.Common.{sym, ap, ◌∙◌}
use Rattle.std.proofs.lemmas.Bool.{false≢true}
use Rattle.listing.specs.Listing.{layout}
use Rattle.listing.specs.Refusals.{Reason, Checked, Outcome, decide_by, decide, checked, outcome, outcome_with, number_of, is_accepted}
use Rattle.listing.specs.ReasonLaws.{number_at, answer_by, Free, Given, free-left, free-right, decide-both, decide_stop, decide-none, decide_fault, decide-clean, number-exactly, good-exactly}
use Rattle.listing.specs.RefusalLaws.{reasons, accepted-exactly, accepted-layout}
use Rattle.listing.specs.declared.Layout.{Layout}
use Rattle.listing.specs.declared.Refusal.{Refusal}

-- what a listing's own reasons say where it is refused
pub listing_said : (s : List ℕ) (x : Refusal) → outcome s ≡ Err x → checked (reasons s) ≡ Err x
unfolding outcome
listing_said s x e = by (checked (reasons s)) refl
  where
    by : (c : Checked) → checked (reasons s) ≡ c → c ≡ Err x
    by (Ok tt) h = absurd (false≢true (sym (ap is_accepted (sym (decide-clean Err (reasons s) (Ok (layout s)) h) ∙ e))))
    by (Err y) h = let q : decide_by Err (reasons s) (Ok (layout s)) ≡ Err y = decide_fault Err (reasons s) (Ok (layout s)) y h in cc

module _ (s : List ℕ) (ys : List Reason) where
  -- a refused listing is refused with the same number and place
  pub further_refused : is_accepted (outcome s) ≡ false → outcome_with s ys ≡ outcome s
  further_refused a = by (outcome s) refl a
    where
      by : (o : Outcome) → outcome s ≡ o → is_accepted o ≡ false → outcome_with s ys ≡ o
      by (Ok l) e a = absurd (false≢true (sym a))
      by (Err x) e a = decide-both Err (reasons s) ys (Ok (layout s)) ∙ decide_fault Err (reasons s) (decide ys (Ok (layout s))) x (listing_said s x e)

  -- of an accepted listing the others decide
  pub further_rest : is_accepted (outcome s) ≡ true → outcome_with s ys ≡ decide ys (Ok (layout s))
  further_rest a = decide-both Err (reasons s) ys (Ok (layout s)) ∙ decide-none Err (reasons s) (decide ys (Ok (layout s))) ((accepted-exactly s).0 a)

  -- a number is given exactly where a reason of that number is there and none before it
  pub further_exactly : (n : ℕ) → 0 < n → (number_of (outcome_with s ys) ≡ n) ↔ ((k : ℕ) × Given (reasons s ++ ys) k × (number_at (reasons s ++ ys) k ≡ n))
  further_exactly n l = number-exactly Err number_of (λ e. refl) (reasons s ++ ys) (Ok (layout s)) n refl l

  -- and then with its place
  pub further_place : (k : ℕ) → Given (reasons s ++ ys) k → outcome_with s ys ≡ answer_by Err (reasons s ++ ys) k (Ok (layout s))
  further_place k g = decide_stop Err (reasons s ++ ys) (Ok (layout s)) k g.passed g.there

  -- all is accepted exactly where no reason is there
  pub further_accepted : (is_accepted (outcome_with s ys) ≡ true) ↔ Free (reasons s ++ ys)
  further_accepted = good-exactly Err is_accepted (λ e. refl) (reasons s ++ ys) (Ok (layout s)) refl

  -- and then the listing is, and none of the others is there
  pub further_listing : is_accepted (outcome_with s ys) ≡ true → is_accepted (outcome s) ≡ true
  further_listing a = (accepted-exactly s).1 (free-left (reasons s) ys (further_accepted.0 a))

  pub further_free : is_accepted (outcome_with s ys) ≡ true → Free ys
  further_free a = free-right (reasons s) ys (further_accepted.0 a)

  -- as a call meets them: o is what was said of the listing, r is what is answered
  module _ (o r : Outcome) (e : o ≡ outcome s) where
    pub answer-refused : (x : Refusal) → o ≡ Err x → r ≡ Err x → r ≡ outcome_with s ys
    answer-refused x f g = g ∙ sym f ∙ e ∙ sym (further_refused (ap is_accepted (sym e ∙ f)))

    -- and c of the others
    module _ (l : Layout) (f : o ≡ Ok l) (c : Checked) (h : c ≡ checked ys) where
      pub answer_fault : (x : Refusal) → c ≡ Err x → r ≡ Err x → r ≡ outcome_with s ys
      answer_fault x g w = w ∙ sym (further_rest (ap is_accepted (sym e ∙ f)) ∙ decide_fault Err ys (Ok (layout s)) x (sym h ∙ g))

      pub answer-clean : c ≡ Ok tt → r ≡ Ok l → r ≡ outcome_with s ys
      answer-clean g w = w ∙ ap (λ (x : Layout). Ok x) (accepted-layout s l (sym e ∙ f)) ∙ sym (further_rest (ap is_accepted (sym e ∙ f)) ∙ decide-clean Err ys (Ok (layout s)) (sym h ∙ g))
