-- What threads did together, as their seats are joined.
use Rattle.std.proofs.Common.{ℕ, suc, ◌≡◌, ◌+◌, ◌-◌, List, [], ◌∷◌, ◌++◌, Option, length, refl, ap, sym, subst, ◌∙◌, append-nil, append_assoc, arith}
use Rattle.wc_chunk.specs.declared.chunk.Chunk.{Chunk}
use Rattle.shared_codec.specs.Dues.{Called}
use Rattle.codec_desk.specs.declared.desk.Desk.{Desk}
use Rattle.codec_desk.specs.declared.desk.Seats.{Seats}
use Rattle.codec_desk.specs.Desks.{SeesMore, Settled}
use Rattle.codec_desk.specs.Each.{Each}
use Rattle.codec_desk.specs.Named.{Calls}
use Rattle.codec_model.specs.declared.entry.Entry.{Entry}
use Rattle.desk_threads.specs.Accounts.{Named}
use Rattle.desk_threads.specs.CallLaws.{named_after, named_joined, named_same}
use Rattle.desk_threads.specs.Parts.{AreTakenIn, EachHas, HaveParts}
use Rattle.script_types.specs.declared.script.ScriptData.{ScriptData}
use Rattle.shared_port.specs.declared.port.PortPass.{PortPass}
use Rattle.shared_variables.specs.Ports.{WholeParcel}
use Rattle.run_model.specs.declared.run.CallerTrace.{CallerTrace}
use Rattle.atomic_table.specs.declared.shared.Seat.{Seat}
use Rattle.wc_base.specs.declared.seat.View.{View}
use Rattle.codec_logs.specs.declared.event.Event.{Event}
use Rattle.shared_codec.specs.Shared.{Shared}
use Rattle.desk_callers.specs.Acts.{StaySeats, histories_in}
use Rattle.desk_callers.specs.Deeds.{Deed, calls_of}
use Rattle.desk_callers.specs.Passes.{AreUnused}
use Rattle.wc_run.specs.declared.jobs.Job.{Job}
use Rattle.wc_run.specs.declared.jobs.Role.{Role}
use Rattle.wc_run.specs.declared.jobs.Role.TheVariants as role
use Rattle.wc_run.specs.Acted.{HasActed, HaveActed, calls_of_all}
use Rattle.wc_run.specs.Jobs.{RoleDid}
use Rattle.wc_run.specs.Owned.{Owned, none_owned, owns_at}
use Rattle.wc_run.specs.Paid.{IsPaid}
use Rattle.wc_run.specs.Roles.{role_at, noted}
use Rattle.wc_run.specs.Ports.{JoinedPasses, KnowAll}
use Rattle.wc_run.specs.Threads.{HaveRun}
use Rattle.wc_run.proofs.Delivered.{know_none, know_same, know_more}
use Rattle.wc_run.proofs.Lasting.{go_seen, go_taken, go_other, acted_later, all_later, acted_add}
use Rattle.wc_run.proofs.Lists.{caller_number}
use Rattle.wc_run.proofs.Owning.{owned_same, owned_joined, owned_settled}

-- these passes took in those, each of them one
pub record AreJoinedTo (ps os qs : List (PortPass WholeParcel)) : Type 0 where
  pub many : length ps ≡ length qs
  pub others : length os ≡ length qs
  pub both : JoinedPasses ps os qs

calls_add : (all : List (List Deed)) (ds : List Deed) → calls_of_all (all ++ ds ∷ []) ≡ calls_of_all all ++ calls_of ds
calls_add [] ds = append-nil (calls_of ds)
calls_add (es ∷ all) ds = ap (λ (l : List Called). calls_of es ++ l) (calls_add all ds) ∙ sym (append_assoc (calls_of es) (calls_of_all all) (calls_of ds))

-- there are as many lists of deeds as callers
acted_many : (s : ScriptData) (media : List (List Chunk)) (c : ℕ) (hs : List (List Entry)) (ts : List CallerTrace) (all : List (List Deed)) → HaveActed s media hs c ts all → length ts ≡ length all
acted_many s media c hs [] [] h = refl
acted_many s media c hs [] (ds ∷ all) h = absurd h
acted_many s media c hs (t ∷ ts) [] h = absurd h
acted_many s media c hs (t ∷ ts) (ds ∷ all) h = ap suc (acted_many s media (suc c) hs ts all h.1)

module _ {S : Type 0} where
  parts_kept : (n : ℕ) (xs : List Shared) (us vs : List (Seat (Option S) (View Event))) → EachHas n us → Each SeesMore xs us vs → EachHas n vs
  parts_kept n [] [] [] p h = tt
  parts_kept n [] [] (v ∷ vs) p h = absurd h
  parts_kept n [] (u ∷ us) vs p h = absurd h
  parts_kept n (x ∷ xs) [] vs p h = absurd h
  parts_kept n (x ∷ xs) (u ∷ us) [] p h = absurd h
  parts_kept n (x ∷ xs) (u ∷ us) (v ∷ vs) p h = (h.0.kept.parts ∙ p.0, parts_kept n xs us vs p.1 h.1)

module _ {C : Type 0} where
  pub parts_stay : (desk : Desk C) (k : ℕ) (a b : Seats C) → HaveParts k a → StaySeats desk a b → HaveParts k b
  parts_stay desk k a b has x = record {
    codecs = parts_kept k desk.codecs.items a.codecs.items b.codecs.items has.codecs x.codecs;
    pool = x.pool.parts ∙ has.pool;
    slots = x.slots.parts ∙ has.slots;
  }

  -- no call more
  pub no_more : (desk : Desk C) (a b : Seats C) (calls : List Called) → Calls desk [] a b → Named desk calls a → Named desk calls b
  no_more desk a b calls since was = subst (λ (l : List Called). Named desk l b) (append-nil calls) (named_after desk a b calls [] since was)

  same_more : (s : ScriptData) (media : List (List Chunk)) (desk : Desk C) (ts : List CallerTrace) (a o b : Seats C) (ps os qs : List (PortPass WholeParcel)) → AreTakenIn desk a o b → AreJoinedTo ps os qs → IsPaid desk b → Named desk [] o → Owned none_owned o → AreUnused os
      → HaveRun s media (KnowAll s media ps) desk ts a → HaveRun s media (KnowAll s media qs) desk ts b
  same_more s media desk ts a o b ps os qs join take paid none own unused x = record {
    paid = paid;
    deeds = x.deeds;
    acted = all_later s media 0 (histories_in a.codecs.items) (histories_in b.codecs.items) ts x.deeds (go_taken desk.codecs.items a.codecs.items o.codecs.items b.codecs.items join.codecs) x.acted;
    calls = named_same desk a o b (calls_of_all x.deeds) join x.calls none;
    own = owned_same desk (owns_at s media x.deeds) a o b join x.own own;
    ports = know_same s media x.deeds ps os qs take.many take.others take.both unused x.ports;
  }

  module _ {K G : Type 0} (s : ScriptData) (media : List (List Chunk)) (desk : Desk C) where
    -- one job more
    by_role : (r : Role) (n w : ℕ) (ts : List CallerTrace) (job : Job C K G) (a b : Seats C) (ps qs : List (PortPass WholeParcel)) → role_at w n ≡ r → length ts ≡ n - (w + 1) → AreTakenIn desk a job.seats b → AreJoinedTo ps job.passes.items qs → IsPaid desk b → RoleDid s media desk r job
        → HaveRun s media (KnowAll s media ps) desk ts a → HaveRun s media (KnowAll s media qs) desk (noted r job.results.items ts) b
    by_role role.Turner n w ts job a b ps qs is many join take paid did x = same_more s media desk ts a job.seats b ps job.passes.items qs join take paid did.calls did.owned did.unused x
    by_role role.Worker n w ts job a b ps qs is many join take paid did x = same_more s media desk ts a job.seats b ps job.passes.items qs join take paid did.calls did.owned did.unused x
    by_role (role.Caller c) n w ts job a b ps qs is many join take paid did x =
        let now : List (List Entry) = histories_in b.codecs.items in
        let number = caller_number w n c is in
        let before : HaveActed s media now 0 ts x.deeds = all_later s media 0 (histories_in a.codecs.items) now ts x.deeds (go_taken desk.codecs.items a.codecs.items job.seats.codecs.items b.codecs.items join.codecs) x.acted in
        let new : HasActed s media now c job.results.items did.deeds = acted_later s media c (histories_in job.seats.codecs.items) now job.results.items did.deeds (go_other desk.codecs.items a.codecs.items job.seats.codecs.items b.codecs.items join.codecs) did.acted in
        record {
          paid = paid;
          deeds = x.deeds ++ did.deeds ∷ [];
          acted = acted_add s media 0 c now ts x.deeds (record { results = job.results.items }) did.deeds before (omega (arith, number, many)) new;
          calls = subst (λ (l : List Called). Named desk l b) (sym (calls_add x.deeds did.deeds)) (named_joined desk a job.seats b (calls_of_all x.deeds) (calls_of did.deeds) join x.calls did.calls);
          own = owned_joined s media desk x.deeds did.deeds c a job.seats b (number ∙ (sym many ∙ acted_many s media 0 (histories_in a.codecs.items) ts x.deeds x.acted)) join x.own did.own did.others;
          ports = know_more s media x.deeds ps job.passes.items qs take.many take.others take.both did.deeds did.ports x.ports;
        }

    pub join_more : (n w : ℕ) (ts : List CallerTrace) (job : Job C K G) (a b : Seats C) (ps qs : List (PortPass WholeParcel)) → length ts ≡ n - (w + 1) → AreTakenIn desk a job.seats b → AreJoinedTo ps job.passes.items qs → IsPaid desk b → RoleDid s media desk (role_at w n) job
        → HaveRun s media (KnowAll s media ps) desk ts a → HaveRun s media (KnowAll s media qs) desk (noted (role_at w n) job.results.items ts) b
    join_more n w ts job a b ps qs many join take paid did x = by_role (role_at w n) n w ts job a b ps qs refl many join take paid did x

  -- with no job joined
  pub run_none : (s : ScriptData) (media : List (List Chunk)) (desk : Desk C) (a : Seats C) (ps : List (PortPass WholeParcel)) → AreUnused ps → IsPaid desk a → Named desk [] a → Owned none_owned a → HaveRun s media (KnowAll s media ps) desk [] a
  run_none s media desk a ps unused paid none own = record { paid = paid; deeds = []; acted = tt; calls = none; own = own; ports = know_none s media ps unused }

  -- what is settled behind
  pub run_settled : (s : ScriptData) (media : List (List Chunk)) (known : List (List Deed) → Type 0) (desk : Desk C) (ts : List CallerTrace) (a b : Seats C) → Settled desk a b → Calls desk [] a b → IsPaid desk b → HaveRun s media known desk ts a → HaveRun s media known desk ts b
  run_settled s media known desk ts a b settled none paid x = record {
    paid = paid;
    deeds = x.deeds;
    acted = all_later s media 0 (histories_in a.codecs.items) (histories_in b.codecs.items) ts x.deeds (go_seen desk.codecs.items a.codecs.items b.codecs.items settled.seats) x.acted;
    calls = no_more desk a b (calls_of_all x.deeds) none x.calls;
    own = owned_settled desk (owns_at s media x.deeds) a b settled x.own;
    ports = x.ports;
  }

  -- where this is known, that is
  pub run_known : (s : ScriptData) (media : List (List Chunk)) (known more : List (List Deed) → Type 0) (desk : Desk C) (ts : List CallerTrace) (a : Seats C) → ((deeds : List (List Deed)) → known deeds → more deeds) → HaveRun s media known desk ts a → HaveRun s media more desk ts a
  run_known s media known more desk ts a f x = record { paid = x.paid; deeds = x.deeds; acted = x.acted; calls = x.calls; own = x.own; ports = f x.deeds x.ports }
