-- The headline, from how a call ends and from what its last step writes.
use Rattle.std.proofs.Common.{◌≡◌, ◌≢◌, ℕ, List, [], ◌++◌, Option, None, ◌⊎◌, inl, inr, refl, sym, subst, ◌∙◌, arith}
use Rattle.wc_base.specs.{Causes.Rose, Told.AppendsPart}
use Rattle.wcrun.proofs.Parts.{one_after_another, then_a_part}
use Rattle.script_types.specs.declared.fault.Fault.{Fault}
use Rattle.chunk_files.specs.declared.fault.Stop.{Stop}
use Rattle.wcrun.specs.Refusals.{status_of, line_of, usage_line, memory_line}
use Rattle.wcrun.specs.Load.{Supply}
use Rattle.wcrun.specs.Headline.{Reading, Writing, IsWhole, IsCut, Comes, IsRefusal, IsWrongReport, SinkFailed, Headline}
use Rattle.wcrun.specs.{Writing.WritesText, Writing.WritesLine, Stops.MayStop}

-- no fault has status 0
not_zero : (x : Fault) → status_of x ≢ 0
not_zero Fault.NotJson = λ e. omega arith
not_zero _ = λ e. omega arith

-- the line for want of memory, with nothing before it
cut_nothing : (r : Reading) (supply : Supply) → IsCut r supply memory_line
cut_nothing r supply = record { part = []; begun = inl refl; whole = refl }

-- that line, after a beginning of what the command writes
cut_after : (r : Reading) (supply : Supply) (old : Option (List ℕ)) (text : List ℕ) (mid : Option (List ℕ)) → IsWhole r supply text → (a : AppendsPart old text mid) → IsCut r supply (a.part ++ memory_line)
cut_after r supply old text mid k a = record { part = a.part; begun = inr (record { all = text; rest = a.rest; is_whole = k; whole = a.whole }); whole = refl }

pub headline_of_whole : (r : Reading) (supply : Supply) (w : Writing) (text : List ℕ) → IsWhole r supply text → WritesText text w → Headline r supply w
headline_of_whole r supply w text k p = record {
  written = λ e. record { text = text; is_whole = k; told = p.done e };
  out_of_memory = λ e. let m = p.memory e in record {
    text = m.1.part ++ memory_line;
    cut = cut_after r supply w.before text m.0 k m.1;
    told = one_after_another w.before m.0 w.after m.1.part memory_line m.1.told m.2;
  };
  sink_failed = λ e. let m = p.part e in record {
    rose = p.failed e;
    text = m.1.part ++ memory_line;
    allowed = inr (inl (cut_after r supply w.before text m.0 k m.1));
    part = then_a_part w.before m.0 m.1.part memory_line w.after m.1.told m.2;
  };
  refused = λ n0 n5 n6. absurd (n5 (p.only n0 n6));
}

-- a failed write of a line, or of the line for want of memory
failed_line : (r : Reading) (supply : Supply) (w : Writing) (line : List ℕ) → IsCut r supply line ⊎ ((status : ℕ) × IsRefusal r supply status line) → Rose w.faults_before w.faults_after
    → AppendsPart w.before line w.after ⊎ AppendsPart w.before memory_line w.after → SinkFailed r supply w
failed_line r supply w line k rose (inl q) = record { rose = rose; text = line; allowed = inr k; part = q }
failed_line r supply w line k rose (inr q) = record { rose = rose; text = memory_line; allowed = inr (inl (cut_nothing r supply)); part = q }

headline_of_line : (r : Reading) (supply : Supply) (w : Writing) (status : ℕ) (line : List ℕ) → status ≢ 0 → IsRefusal r supply status line → WritesLine status line w → Headline r supply w
headline_of_line r supply w status line some k p = record {
  written = λ e. absurd (some (sym (p.done (λ five. omega arith) (λ six. omega arith)) ∙ e));
  out_of_memory = λ e. record { text = memory_line; cut = cut_nothing r supply; told = p.memory e };
  sink_failed = λ e. failed_line r supply w line (inr (status, k)) (p.failed e) (p.part e);
  refused = λ n0 n5 n6. record {
    text = line;
    line = subst (λ n. IsRefusal r supply n line) (sym (p.done n5 n6)) k;
    told = p.whole n5 n6;
  };
}

pub headline_of_fault : (r : Reading) (supply : Supply) (w : Writing) (x : Fault) → Comes r x → WritesLine (status_of x) (line_of x) w → Headline r supply w
headline_of_fault r supply w x k p =
    headline_of_line r supply w (status_of x) (line_of x) (not_zero x) (inr (inl (record { told = x; comes = k; is_status = refl; is_line = refl }))) p

pub headline_of_usage : (r : Reading) (supply : Supply) (w : Writing) → r.command ≡ None → WritesLine 2 usage_line w → Headline r supply w
headline_of_usage r supply w k p =
    headline_of_line r supply w 2 usage_line (λ e. omega arith) (inl (record { comes = k; is_status = refl; is_line = refl })) p

pub headline_of_wrong : (r : Reading) (supply : Supply) (w : Writing) (text : List ℕ) → IsWrongReport r supply 1 text → WritesLine 1 text w → Headline r supply w
headline_of_wrong r supply w text k p = headline_of_line r supply w 1 text (λ e. omega arith) (inr (inr k)) p

pub headline_of_memory : (r : Reading) (supply : Supply) (w : Writing) → WritesLine 6 memory_line w → Headline r supply w
headline_of_memory r supply w p = record {
  written = λ e. let n6 : w.answer ≢ 6 = λ six. omega arith in absurd (n6 (p.done (λ five. omega arith) n6));
  out_of_memory = λ e. record { text = memory_line; cut = cut_nothing r supply; told = p.memory e };
  sink_failed = λ e. failed_line r supply w memory_line (inl (cut_nothing r supply)) (p.failed e) (p.part e);
  refused = λ n0 n5 n6. absurd (n6 (p.done n5 n6));
}

-- a fault that stops a command may come
pub stop_comes : (r : Reading) (e : Stop Fault) (x : Fault) → e ≡ Stop.Fault x → MayStop r e → Comes r x
stop_comes r e x q k = subst (λ s. MayStop r s) q k
