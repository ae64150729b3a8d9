-- What a host over folders is seen as, and how its calls change it.
use Rattle.std.specs.Prelude.{ℕ, Result, Ok, Err}
use Rattle.jv_host.specs.declared.host.HostFault.{HostFault}
use Rattle.jv_host.specs.declared.host.HostFault.TheVariants.{Failed, Memory}
use Rattle.jv_host.specs.Counts.{one_more}

-- how many lists and reads failed, and how many writes
pub record DirHostState : Type 0 where
  pub read_faults : ℕ
  pub write_faults : ℕ

-- a host after a list or a read answers
abbrev pub after_dir_read : {T : Type 0} → Result T HostFault → DirHostState → DirHostState
after_dir_read (Ok _) host = host
after_dir_read (Err Failed) host = record host { read_faults = one_more host.read_faults }
after_dir_read (Err Memory) host = host

-- a host after a write answers
abbrev pub after_dir_write : {T : Type 0} → Result T HostFault → DirHostState → DirHostState
after_dir_write (Ok _) host = host
after_dir_write (Err Failed) host = record host { write_faults = one_more host.write_faults }
after_dir_write (Err Memory) host = host
