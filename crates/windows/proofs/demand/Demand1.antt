-- Demand 1 of the rules, read of the answers, sessions and slices that calls by their contracts hand back.
use Prim.Native.Nat.{ℕ}
use mathlib.Core.Path.{◌≡◌, refl, sym, ap, subst, ◌∙◌}
use mathlib.Core.Logic.{◌≢◌}
use mathlib.Core.List.{List, [], ◌∷◌, ◌++◌}
use mathlib.Core.Option.{Option, none, some, none-ne-some}
use Rattle.geom.specs.Lists.{numbers}
use Rattle.geom.specs.declared.Rect.{Rect}
use Rattle.rules.specs.Group.{Group, start}
use Rattle.rules.specs.Calls.{Call, Mark, Made, does, after}
use Rattle.rules.specs.Panels.{call_of}
use Rattle.rules.specs.Conditions.{lent_store, lent_screen}
use Rattle.rules.specs.Stale.{stale}
use Rattle.rules.specs.Demand1 as Rule
use Rattle.rules.specs.Demand1.{Unchanged, Answers, Query, Reply, reply, replies, Replies, bit, located_numbers, stale_numbers}
use Rattle.rules.proofs.demand.Demand1.{demand_1}
use Rattle.windows.specs.declared.Session.{Session}
use Rattle.windows.specs.declared.SessionState.{SessionState}
use Rattle.windows.specs.View.{Done, Placed, Stale, WindowState, group, Meets, is_due, rect_in}
use Rattle.windows.specs.Run.{calls, LeftAs, AsRuled}
use Rattle.windows.specs.Demand1.{WasAnswered, RunAnswered, Answered, Replied, window_numbers, session_numbers, NextCall, ProgramDemand1}
use Rattle.windows.proofs.demand.Runs.{ruled_from, reached, ruled}

-- The calls that were made ------------------------------------------------------------------------------------------

left_is : (o : Option (List ℕ)) (l rule p : List ℕ) → o ≡ some p → LeftAs o l rule → l ≡ rule
left_is none l rule p e h = absurd (none-ne-some p e)
left_is (some q) l rule p e h = h

was_answered : (c : ℕ) (ms : List Made) (m : Made) (rest : List Made) → AsRuled (start c).group (ms ++ (m ∷ rest)) → WasAnswered (after c (calls ms)) m
unfolding after AsRuled
was_answered c ms m rest h =
    let (a, stored, shown, _) = ruled_from (start c).group ms (m ∷ rest) h in
    let rule = demand_1.calls c (calls ms) m.call in
    record {
      answer = a ∙ rule.answer;
      store = λ ne p e. left_is (lent_store m.call) m.store _ p e stored ∙ (rule.refused (λ z. ne (a ∙ z))).store p e;
      screen = λ ne p e. left_is (lent_screen m.call) m.screen _ p e shown ∙ (rule.refused (λ z. ne (a ∙ z))).screen p e;
    }

-- The next call -----------------------------------------------------------------------------------------------------

stale_numbers_lem : (o : Option Rect) → bit (is_due o) ∷ numbers (rect_in o ∷ []) ≡ stale_numbers o
stale_numbers_lem none = refl
stale_numbers_lem (some r) = refl

module _ (s : Session) (rules : (k : Call) → Answers (group s) k) (queries : (q : Query) → Replies (group s) q) where
  answered : (k : Call) (r : Done) → Meets k s r → Answered s k r.answer r.session
  answered k r m = record { answer = m.answer ∙ (rules k).answer; same = m.same }

  unchanged : (k : Call) (r : Done) → Meets k s r → r.answer ≢ 0 → Unchanged (group s) k (does (group s) k)
  unchanged k r m ne = (rules k).refused (λ z. ne (m.answer ∙ z))

  -- what a query hands back is the rule's
  replied : (q : Query) (r : Reply) → r ≡ replies (group s) q → Replied s q r
  replied q r e = subst (Replied s q) (sym e) (record { answer = (queries q).answer; refused = (queries q).refused })

  next_call : NextCall s
  unfolding replies
  next_call =
      record {
        call = answered;
        stored = λ k r lent left l h. (answered k r h.meets, λ ne. h.stored ∙ (unchanged k r h.meets ne).store lent l);
        altered = λ id u r lent left l h.
            let k = call_of id u lent in
            let m = h.meets.meets in
            (answered k _ m, λ ne. let o = unchanged k _ m ne in (h.meets.stored ∙ o.store lent l, h.altered ∙ o.altered));
        marked = λ id r h. answered (Mark id) r h.meets;
        drawn = λ k r lent left l h. (answered k r h.meets, λ ne. h.shown ∙ (unchanged k r h.meets ne).screen lent l);
        created = λ k r h. (answered k _ h.meets, λ ne. h.id ∙ (unchanged k _ h.meets ne).id);
        popped = λ k r h. (answered k _ h.meets, λ ne. h.event ∙ (unchanged k _ h.meets ne).event);
        visible = λ id lent left r h. replied (Rule.Visible id lent) _ (λ i. reply (h.answer i) (h.list i) (h.count i ∷ []));
        share = λ id r h. replied (Rule.Share id) _ (λ i. reply (h.answer i) [] (h.percent i ∷ h.remainder i ∷ []));
        sheet = λ id lent left r h. replied (Rule.Sheet id lent) _ (λ i. reply (h.answer i) (h.bytes i) (h.count i ∷ []));
        hits = λ points lent left a h. replied (Rule.Hits points lent) _ (λ i. reply (h.answer i) (h.list i) []);
        look = λ id l store lent left tw th a h.
            replied (Rule.Look id l store lent tw th) _ (λ i. reply (h.answer i) (h.target i) []);
        display = λ px py r h. replied (Rule.GetDisplayForPos px py) _ (λ i. reply (h.answer i) [] (located_numbers (h.located i)));
        rect = λ id r e. replied (Rule.RectOf id) _ (ap (λ (p : Placed). reply p.answer [] (numbers (p.rect ∷ []))) e);
        stale = λ which area r e.
            replied (Rule.Stale which area) _
            (ap (λ (t : Stale). reply t.answer [] (bit t.due ∷ numbers (t.rect ∷ []))) e ∙ ap (reply (stale (group s) which area).answer []) (stale_numbers_lem (stale (group s) which area).rect));
        waiting = λ n e. replied Rule.Waiting _ (ap (λ (n : ℕ). reply 0 [] (n ∷ [])) e);
        window = λ id r e. replied (Rule.Window id) _ (ap (λ (w : WindowState). reply w.answer [] (window_numbers w)) e);
        session = λ r e. replied Rule.Session _ (ap (λ (t : SessionState). reply 0 [] (session_numbers t)) e);
        focus = λ f e. replied Rule.Focus _ (ap (λ (n : ℕ). reply 0 [] (n ∷ [])) e);
      }

pub program_demand_1 : ProgramDemand1
unfolding RunAnswered
program_demand_1 =
    record {
      starts = λ c r h. let rule = demand_1.starts c in
          record { answer = h.answer ∙ rule.answer; refused = λ ne. h.after ∙ rule.refused (λ z. ne (h.answer ∙ z)) };
      made = λ c ms s r ms₁ m rest e. was_answered c ms₁ m rest (subst (AsRuled (start c).group) e (ruled r));
      next = λ c ms s r.
          let e = sym (reached r) in
          next_call s (λ k. subst (λ (g : Group). Answers g k) e (demand_1.calls c (calls ms) k))
          (λ q. subst (λ (g : Group). Replies g q) e (demand_1.queries c (calls ms) q));
    }
