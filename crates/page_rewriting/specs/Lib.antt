-- What a write keeps between planning and carrying out, and a job on a page.
pub mod Plans
pub mod Jobs
