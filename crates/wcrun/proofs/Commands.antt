-- Which command the words are, by what was told of its verb and its names.
use Rattle.std.proofs.Common.{◌≡◌, ◌≢◌, ℕ, List, [], Option, Some, sym, ap, ◌∙◌}
use Rattle.wcrun.specs.Words.{Command, command_on, to_run, to_probe, to_check, NamesReport}
use Rattle.wcrun.specs.declared.command.Mode.{Mode}
use Rattle.wcrun.specs.declared.command.Verb.{Verb}

run_is_no_check : (m : Mode) → Verb.Run m ≡ Verb.Check → ⊥
run_is_no_check m e = cc

probe_is_no_check : ◌≡◌ {A = Verb} Verb.Probe Verb.Check → ⊥
probe_is_no_check e = cc

-- a command that names no report
alone_told : (words : Option Command) (v w : Verb) (file report : List ℕ) → v ≡ w → w ≢ Verb.Check → NamesReport v report → Some (command_on v file report) ≡ words → Some (command_on w file []) ≡ words
alone_told words v w file report is other named told =
    ap (λ (x : Verb). Some (command_on x file [])) (sym is) ∙ (ap (λ (l : List ℕ). Some (command_on v file l)) (sym (named (λ e. other (sym is ∙ e)))) ∙ told)

pub run_told : (words : Option Command) (v : Verb) (m : Mode) (file report : List ℕ) → v ≡ Verb.Run m → NamesReport v report → Some (command_on v file report) ≡ words → to_run m file ≡ words
run_told words v m file report is named told = alone_told words v (Verb.Run m) file report is (run_is_no_check m) named told

pub probe_told : (words : Option Command) (v : Verb) (file report : List ℕ) → v ≡ Verb.Probe → NamesReport v report → Some (command_on v file report) ≡ words → to_probe file ≡ words
probe_told words v file report is named told = alone_told words v Verb.Probe file report is probe_is_no_check named told

pub check_told : (words : Option Command) (v : Verb) (file report : List ℕ) → v ≡ Verb.Check → Some (command_on v file report) ≡ words → to_check file report ≡ words
check_told words v file report is told = ap (λ (x : Verb). Some (command_on x file report)) (sym is) ∙ told
