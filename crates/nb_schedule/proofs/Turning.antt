-- The calls of one worker.
use Rattle.std.proofs.Common.{◌≡◌, ℕ, ◌+◌, ◌-◌, ◌<◌, List, [], ◌∷◌, ◌++◌, refl, sym, ap, ◌∙◌, subst, arith}
use Rattle.std.specs.Prelude.{Option, Some, None, Result, Ok, Err, true, false, IsSome, is_some}
use Rattle.std.specs.FinMap as map
use Rattle.std.proofs.lemmas.List.Elements.{All-nil}
use Rattle.nb_base.proofs.Maps.{numbers, at_same}
use Rattle.nb_base.specs.Meanings.{Meaning, IsMeaning, IsShown}
use Rattle.nb_base.specs.Messages.{Message}
use Rattle.nb_base.specs.Orders.{ByNumber}
use Rattle.nb_base.specs.declared.plan.Outcome.{Outcome}
use Rattle.nb_base.specs.declared.saga_row.Read.{Read}
use Rattle.nb_core.specs.Calls.{View, Called, Ready, Foreign, IsSending, state_of}
use Rattle.nb_core.specs.Past.{Fixed}
use Rattle.nb_core.specs.declared.answers.DeskFault.{DeskFault}
use Rattle.nb_core.specs.declared.answers.Look.{Look as LookAnswer}
use Rattle.nb_core.specs.declared.answers.Look.TheVariants.{Fresh, Known}
use Rattle.nb_core.specs.declared.answers.Settled.{Settled}
use Rattle.nb_core.specs.declared.answers.Settled.TheVariants as settled
use Rattle.nb_core.specs.declared.answers.Taken.TheVariants.{Got, Nothing, Limit}
use Rattle.nb_core.specs.declared.call.Answer.{Answer}
use Rattle.nb_core.specs.declared.call.Answer.TheVariants as answer
use Rattle.nb_core.specs.declared.call.Call.TheVariants as call
use Rattle.nb_core.specs.declared.event.Event.{Event}
use Rattle.nb_core.specs.declared.event.Event.TheVariants.{Take, Look, Settle, Send, Mark, Aside, Remove}
use Rattle.nb_pump.proofs.Following.{dispatch_start, dispatch_next, dispatch_end, may_send, may_finish_marked, may_finish_aside, finished}
use Rattle.nb_pump.proofs.Settling.{may_follow}
use Rattle.nb_pump.proofs.Taking.{got_holds, may_finish, may_dispatch, may_judge}
use Rattle.nb_pump.proofs.Views.{moved_none}
use Rattle.nb_pump.specs.Leases.{CanFollow, IsOfLease, next_after}
use Rattle.nb_schedule.proofs.Seating.{Spares, spares_none, spares_one, spares_refused, times_other, owned, placed, unmoved, seated, remained, goes_on}
use Rattle.nb_schedule.specs.Seats.{put_seat, left_at, seat_after, IsAt, Staged}
use Rattle.nb_schedule.specs.declared.seat.Seat.{Seat}
use Rattle.nb_schedule.specs.declared.seat.Seat.TheVariants as seat

-- where a worker is that may follow its Settle
follows : (moment w : ℕ) (u : View) (way : Settled) → CanFollow (next_after way) w u → IsAt moment u w (seat_after way)
follows moment w u (settled.Committed n) x = x.1
follows moment w u (settled.Twin true) x = x.1
follows moment w u (settled.Twin false) x = x.1
follows moment w u (settled.Again f) x = x.1
follows moment w u (settled.Later f) x = x.1
follows moment w u (settled.Error f) x = x.1
follows moment w u (settled.Discarded f) x = x.1

-- one event of another worker
other : (k w : ℕ) (e : Event) (own : List Event) → own ≡ e ∷ [] → Foreign (k ∷ []) e → Spares k own
other k w e own is foreign = subst (Spares k) (sym is) (spares_one k e foreign)

none : (k : ℕ) (own : List Event) → own ≡ [] → Spares k own
none k own is = subst (Spares k) (sym is) (spares_none k)

-- what is kept of a worker is forgotten for the time being
pub lost_there : (seats : ByNumber Seat) (w : ℕ) → IsSome (map.get (map.insert seats w seat.Lost) w)
lost_there seats w = ap is_some (at_same numbers seats w seat.Lost)

pub left_new : (seats seats' : ByNumber Seat) (w : ℕ) (x : Seat) → Some x ≡ map.get seats w → seats' ≡ left_at seats w (map.get seats w) → seats' ≡ map.insert seats w seat.Lost
left_new seats seats' w x was is = is ∙ ap (left_at seats w) (sym was)

module _ (meaning : Meaning) (workers moment : ℕ) (seats : ByNumber Seat) (v : View) (st : Staged meaning workers moment seats v) where
  -- what is known of a worker
  pub known : (w : ℕ) (o : Option Seat) → map.get seats w ≡ o → IsAt moment v w o
  known w o is = subst (IsAt moment v w) is (st.at w)

  pub forgot : (w : ℕ) → Staged meaning workers moment (map.insert seats w seat.Lost) v
  forgot w = placed meaning workers moment seats v st w (Some seat.Lost) tt

  pub restored : (w : ℕ) (x : Seat) → map.get seats w ≡ Some x → Staged meaning workers moment (put_seat (map.insert seats w seat.Lost) w (Some x)) v
  restored w x is = placed meaning workers moment (map.insert seats w seat.Lost) v (forgot w) w (Some x) (known w (Some x) is)

  -- ---- Take

  pub may_take : (w : ℕ) → w < workers → map.get seats w ≡ None → Ready (call.Take w) v
  may_take w lt is = (owned meaning workers moment seats v st w lt, known w None is)

  module _ (w : ℕ) (lt : w < workers) (is : map.get seats w ≡ None) (u : View) where
    abbrev lost : ByNumber Seat
    lost = map.insert seats w seat.Lost

    forgotten : Staged meaning workers moment lost v
    forgotten = placed meaning workers moment seats v st w (Some seat.Lost) tt

    pub took : (m : Message) → Called (call.Take w) (answer.Took (Ok (Got m))) v u → Staged meaning workers moment (put_seat lost w (Some (seat.Held m))) u
    took m c = seated meaning workers moment lost v forgotten u (call.Take w) (answer.Took (Ok (Got m))) c w (Some (seat.Held m))
        (λ k ne. other k w (Take w) c.own c.gives.0 (times_other k w ne)) (got_holds w m v u (may_take w lt is) c)

    untook : (a : Answer) (c : Called (call.Take w) a v u) → ((k : ℕ) → Spares k c.own) → Staged meaning workers moment (put_seat lost w None) u
    untook a c spares = seated meaning workers moment lost v forgotten u (call.Take w) a c w None (λ k ne. spares k)
        (subst (IsAt moment u w) is (goes_on meaning workers moment seats v st u (call.Take w) a c w (spares w)))

    pub took_nothing : Called (call.Take w) (answer.Took (Ok Nothing)) v u → Staged meaning workers moment (put_seat lost w None) u
    took_nothing c = untook (answer.Took (Ok Nothing)) c (λ k. none k c.own c.gives.0)

    pub took_limit : Called (call.Take w) (answer.Took (Ok Limit)) v u → Staged meaning workers moment (put_seat lost w None) u
    took_limit c = untook (answer.Took (Ok Limit)) c (λ k. none k c.own c.gives.0)

    pub took_refused : (f : DeskFault) → Called (call.Take w) (answer.Took (Err f)) v u → Staged meaning workers moment (put_seat lost w None) u
    took_refused f c = untook (answer.Took (Err f)) c (spares_refused (call.Take w) f v.fixed (v.events ++ c.others) c.own c.gives)

  -- ---- Look

  pub may_look : (w : ℕ) (msg : Message) → w < workers → map.get seats w ≡ Some (seat.Held msg) → Ready (call.Look w) v
  may_look w msg lt is = (owned meaning workers moment seats v st w lt, let h = known w (Some (seat.Held msg)) is in (h.number, h.held))

  module _ (w : ℕ) (msg : Message) (lt : w < workers) (is : map.get seats w ≡ Some (seat.Held msg)) (u : View) where
    abbrev left : ByNumber Seat
    left = map.insert seats w seat.Lost

    left_it : Staged meaning workers moment left v
    left_it = placed meaning workers moment seats v st w (Some seat.Lost) tt

    looks : (l : LookAnswer) (c : Called (call.Look w) (answer.Saw (Ok l)) v u) (o : Option Seat) → IsAt moment u w o → Staged meaning workers moment (put_seat left w o) u
    looks l c o at = seated meaning workers moment left v left_it u (call.Look w) (answer.Saw (Ok l)) c w o (λ k ne. other k w (Look w) c.own c.gives.0 (times_other k w ne)) at

    pub looked : (reads : List Read) → IsMeaning meaning → Called (call.Look w) (answer.Saw (Ok (Fresh reads))) v u → Staged meaning workers moment (put_seat left w (Some (seat.Looked msg reads))) u
    looked reads right c =
        let of_u : v.fixed.meaning ≡ u.fixed.meaning = ap (λ (f : Fixed). f.meaning) (sym c.fixed) in
        let j = may_judge u.fixed.meaning w msg reads moment v u of_u (subst IsMeaning (sym st.meaning_is ∙ of_u) right) (owned meaning workers moment seats v st w lt) (known w (Some (seat.Held msg)) is) st.now c in
        looks (Fresh reads) c (Some (seat.Looked msg reads)) (j.shown, j.ready.1)

    pub looked_sent : Called (call.Look w) (answer.Saw (Ok (Known true))) v u → Staged meaning workers moment (put_seat left w (Some seat.Done)) u
    looked_sent c = looks (Known true) c (Some seat.Done) (may_finish w v u (owned meaning workers moment seats v st w lt) c).1

    pub looked_unsent : Called (call.Look w) (answer.Saw (Ok (Known false))) v u → Staged meaning workers moment (put_seat left w (Some seat.Sending)) u
    looked_unsent c = looks (Known false) c (Some seat.Sending) (may_dispatch w v u (owned meaning workers moment seats v st w lt) c).1

    pub look_refused : (f : DeskFault) → Called (call.Look w) (answer.Saw (Err f)) v u → Staged meaning workers moment (put_seat left w (Some (seat.Held msg))) u
    look_refused f c =
        let spares = spares_refused (call.Look w) f v.fixed (v.events ++ c.others) c.own c.gives in
        seated meaning workers moment left v left_it u (call.Look w) (answer.Saw (Err f)) c w (Some (seat.Held msg)) (λ k ne. spares k)
        (subst (IsAt moment u w) is (goes_on meaning workers moment seats v st u (call.Look w) (answer.Saw (Err f)) c w (spares w)))

  -- ---- Settle

  module _ (w : ℕ) (msg : Message) (reads : List Read) (lt : w < workers) (is : map.get seats w ≡ Some (seat.Looked msg reads)) where
    pub may_judge_it : IsShown meaning msg reads
    may_judge_it = subst (λ (x : Meaning). IsShown x msg reads) st.meaning_is (known w (Some (seat.Looked msg reads)) is).0

    pub may_settle : (o : Outcome) → o ≡ record { reads = reads; verdict = meaning.on_reads reads msg moment } → Ready (call.Settle w o) v
    may_settle o is_o =
        let same : o ≡ record { reads = reads; verdict = v.fixed.meaning.on_reads reads msg moment } = is_o ∙ (λ i. record { reads = reads; verdict = (sym st.meaning_is i).on_reads reads msg moment }) in
        subst (λ (x : Outcome). Ready (call.Settle w x) v) (sym same) (owned meaning workers moment seats v st w lt, (known w (Some (seat.Looked msg reads)) is).1)

    abbrev away : ByNumber Seat
    away = map.insert seats w seat.Lost

    away_is : Staged meaning workers moment away v
    away_is = placed meaning workers moment seats v st w (Some seat.Lost) tt

    pub settled_so : (u : View) (o : Outcome) (way : Settled) → Called (call.Settle w o) (answer.Settled (Ok way)) v u → Staged meaning workers moment (put_seat away w (seat_after way)) u
    settled_so u o way c = seated meaning workers moment away v away_is u (call.Settle w o) (answer.Settled (Ok way)) c w (seat_after way)
        (λ k ne. other k w (Settle w) c.own c.gives.0 (times_other k w ne))
        (follows moment w u way (may_follow w o way v u (owned meaning workers moment seats v st w lt) c))

    pub settle_refused : (u : View) (o : Outcome) (f : DeskFault) → Called (call.Settle w o) (answer.Settled (Err f)) v u → Staged meaning workers moment (put_seat away w (Some (seat.Looked msg reads))) u
    settle_refused u o f c =
        let spares = spares_refused (call.Settle w o) f v.fixed (v.events ++ c.others) c.own c.gives in
        seated meaning workers moment away v away_is u (call.Settle w o) (answer.Settled (Err f)) c w (Some (seat.Looked msg reads)) (λ k ne. spares k)
        (subst (IsAt moment u w) is (goes_on meaning workers moment seats v st u (call.Settle w o) (answer.Settled (Err f)) c w (spares w)))

  -- ---- the batch

  pub may_ask : (w : ℕ) → w < workers → map.get seats w ≡ Some seat.Sending → Ready (call.Unsent w) v
  may_ask w lt is = (owned meaning workers moment seats v st w lt, known w (Some seat.Sending) is)

  module _ (w : ℕ) (lt : w < workers) (u : View) where
    pub asked : (r : Result ℕ DeskFault) → Called (call.Unsent w) (answer.Unsent r) v u → Staged meaning workers moment seats u
    asked (Ok n) c = unmoved meaning workers moment seats v st u (call.Unsent w) (answer.Unsent (Ok n)) c (λ k. none k c.own c.gives.0)
    asked (Err f) c = unmoved meaning workers moment seats v st u (call.Unsent w) (answer.Unsent (Err f)) c (spares_refused (call.Unsent w) f v.fixed (v.events ++ c.others) c.own c.gives)

    pub may_send_now : (left : ℕ) → 0 < left → Called (call.Unsent w) (answer.Unsent (Ok left)) v u → Ready (call.Send w) u
    may_send_now left more c = may_send w left v u (dispatch_start w left v u (owned meaning workers moment seats v st w lt) c) more

    pub may_mark_now : (left : ℕ) → left ≡ 0 → Called (call.Unsent w) (answer.Unsent (Ok left)) v u → Ready (call.Mark w) u
    may_mark_now left all c = dispatch_end w left v u all (dispatch_start w left v u (owned meaning workers moment seats v st w lt) c)

  -- ---- the end of a lease

  module _ (w : ℕ) (lt : w < workers) (u : View) where
    pub may_put : map.get seats w ≡ Some seat.Leaving → Ready (call.Aside w) v
    may_put is = (owned meaning workers moment seats v st w lt, known w (Some seat.Leaving) is)

    pub put_it : Called (call.Aside w) (answer.Plain (Ok tt)) v u → Staged meaning workers moment (put_seat seats w (Some seat.Done)) u
    put_it c = seated meaning workers moment seats v st u (call.Aside w) (answer.Plain (Ok tt)) c w (Some seat.Done) (λ k ne. other k w (Aside w) c.own c.gives (times_other k w ne))
        (may_finish_aside w v u (owned meaning workers moment seats v st w lt) c).1

    pub put_refused : (f : DeskFault) → Called (call.Aside w) (answer.Plain (Err f)) v u → Staged meaning workers moment seats u
    put_refused f c = unmoved meaning workers moment seats v st u (call.Aside w) (answer.Plain (Err f)) c (spares_refused (call.Aside w) f v.fixed (v.events ++ c.others) c.own c.gives)

    pub may_remove : map.get seats w ≡ Some seat.Done → Ready (call.Remove w) v
    may_remove is = (owned meaning workers moment seats v st w lt, known w (Some seat.Done) is)

    pub removed_it : Called (call.Remove w) (answer.Plain (Ok tt)) v u → Staged meaning workers moment (put_seat seats w None) u
    removed_it c = seated meaning workers moment seats v st u (call.Remove w) (answer.Plain (Ok tt)) c w None (λ k ne. other k w (Remove w) c.own c.gives (times_other k w ne)) (finished w v u c).end.1

    pub remove_refused : (f : DeskFault) → Called (call.Remove w) (answer.Plain (Err f)) v u → Staged meaning workers moment seats u
    remove_refused f c = unmoved meaning workers moment seats v st u (call.Remove w) (answer.Plain (Err f)) c (spares_refused (call.Remove w) f v.fixed (v.events ++ c.others) c.own c.gives)

    pub marked_it : Called (call.Mark w) (answer.Plain (Ok tt)) v u → Staged meaning workers moment (put_seat seats w (Some seat.Done)) u
    marked_it c = seated meaning workers moment seats v st u (call.Mark w) (answer.Plain (Ok tt)) c w (Some seat.Done) (λ k ne. other k w (Mark w) c.own c.gives (times_other k w ne))
        (may_finish_marked w v u (owned meaning workers moment seats v st w lt) c).1

    pub mark_refused : (f : DeskFault) → Called (call.Mark w) (answer.Plain (Err f)) v u → Staged meaning workers moment seats u
    mark_refused f c = unmoved meaning workers moment seats v st u (call.Mark w) (answer.Plain (Err f)) c (spares_refused (call.Mark w) f v.fixed (v.events ++ c.others) c.own c.gives)

    pub send_refused : (f : DeskFault) → Called (call.Send w) (answer.Plain (Err f)) v u → Staged meaning workers moment seats u
    send_refused f c = unmoved meaning workers moment seats v st u (call.Send w) (answer.Plain (Err f)) c (spares_refused (call.Send w) f v.fixed (v.events ++ c.others) c.own c.gives)

    -- one op less is left
    pub sent_one : (less : ℕ) → IsSending (state_of v) w (less + 1) → map.get seats w ≡ Some seat.Sending → Called (call.Send w) (answer.Plain (Ok tt)) v u → Staged meaning workers moment seats u
    sent_one less sending is c =
        let d = dispatch_next w (less + 1) less v v u refl (record { own = []; of_lease = All-nil (IsOfLease w); made = moved_none v st.legal; owns = owned meaning workers moment seats v st w lt; sending = sending }) c in
        remained meaning workers moment seats v st u (call.Send w) (answer.Plain (Ok tt)) c w (λ k ne. other k w (Send w) c.own c.gives (times_other k w ne))
        (subst (IsAt moment u w) (sym is) (less, d.sending))

-- an op of the batch is sent, or the send is refused
pub sends : (meaning : Meaning) (workers moment : ℕ) (seats : ByNumber Seat) (v : View) (st : Staged meaning workers moment seats v) (w : ℕ) (lt : w < workers) (u : View)
    (left : ℕ) → 0 < left → map.get seats w ≡ Some seat.Sending → Called (call.Unsent w) (answer.Unsent (Ok left)) v u → (r : Result (Unit {0}) DeskFault) (t : View) → Called (call.Send w) (answer.Plain r) u t
    → Staged meaning workers moment seats t
sends meaning workers moment seats v st w lt u left more is c (Ok x) t d =
    let sending = (dispatch_start w left v u (owned meaning workers moment seats v st w lt) c).sending in
    let one_more : left ≡ (left - 1) + 1 = omega (arith, more) in
    sent_one meaning workers moment seats u (asked meaning workers moment seats v st w lt u (Ok left) c) w lt t (left - 1) (subst (λ (n : ℕ). IsSending (state_of u) w n) one_more sending) is d
sends meaning workers moment seats v st w lt u left more is c (Err f) t d = send_refused meaning workers moment seats u (asked meaning workers moment seats v st w lt u (Ok left) c) w lt t f d
