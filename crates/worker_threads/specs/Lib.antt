pub mod MailboxState
